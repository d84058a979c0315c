use Rattle.std.proofs.Common.{sym, subst, Ok}
use Rattle.hol_term.specs.Tables.{term_at, terms_at}
use Rattle.hol_rules.specs.Premises.{IsStated}
use Rattle.article_spec.specs.RuleSteps.{stated}
use Rattle.stack_machine.specs.Inferring.{Exports, restating}
use Rattle.stack_machine.specs.Stored.{store_view}
use Rattle.stack_machine.proofs.Stated.{exported-IsStore, exported-Exports, exported-fails, Exports-handed, restate-sequent}
use Rattle.stack_machine.proofs.store.Store.export_next.Goals as goal

pub invariant_of-self : goal.invariant_of-self
invariant_of-self c =
    let is = subst (λ m. IsStated m.trees c.args.sequent (stated (terms_at m.trees c.args.hyps.now) (term_at m.trees c.args.concl.0))) (sym c.self.view_is)
    c.requires.stated in
    exported-IsStore c.in_err-_step.ensures.concludes c.args.sequent c.self.inside.exports c.restate_into.new.noted c.in_err-_step.ensures.noted
    c.in_err-_step.ensures.unchanged
    (stated (terms_at c.self.inside.proof.trees c.args.hyps.now) (term_at c.self.inside.proof.trees c.args.concl.0)) is
    (restate-sequent c.self.inside.proof.made c.args.one (terms_at c.self.inside.proof.trees c.args.hyps.now)
    (term_at c.self.inside.proof.trees c.args.concl.0)) c.self.invariant

pub returns-in_err-_step : goal.returns-in_err-_step
returns-in_err-_step c =
    subst (λ m. Exports m (restating c.args.one (terms_at m.trees c.args.hyps.now) (term_at m.trees c.args.concl.0))
    (store_view c.restate_into.new.proof c.self.inside.names.items c.self.inside.cells.items c.self.inside.assumptions c.restate_into.new.noted
    c.self.inside.pool) c.from_residual.result)
    c.self.view_is (Exports-handed _ _ c.from_residual.ensures.1
    (exported-fails c.args.one (terms_at c.self.inside.proof.trees c.args.hyps.now) (term_at c.self.inside.proof.trees c.args.concl.0)
    c.in_err-_step.ensures.concludes c.args.sequent c.self.inside.exports c.restate_into.new.noted c.in_err-_step.ensures.unchanged c.self.invariant))

pub invariant_of-self-2 : goal.invariant_of-self-2
invariant_of-self-2 c =
    let is = subst (λ m. IsStated m.trees c.args.sequent (stated (terms_at m.trees c.args.hyps.now) (term_at m.trees c.args.concl.0))) (sym c.self.view_is)
    c.requires.stated in
    exported-IsStore c.in_ok-_step.ensures.concludes c.args.sequent c.self.inside.exports c.restate_into.new.noted c.in_ok-_step.ensures.noted
    c.in_ok-_step.ensures.unchanged
    (stated (terms_at c.self.inside.proof.trees c.args.hyps.now) (term_at c.self.inside.proof.trees c.args.concl.0)) is
    (restate-sequent c.self.inside.proof.made c.args.one (terms_at c.self.inside.proof.trees c.args.hyps.now)
    (term_at c.self.inside.proof.trees c.args.concl.0)) c.self.invariant

pub returns : goal.returns
returns c =
    subst (λ m. Exports m (restating c.args.one (terms_at m.trees c.args.hyps.now) (term_at m.trees c.args.concl.0))
    (store_view c.restate_into.new.proof c.self.inside.names.items c.self.inside.cells.items c.self.inside.assumptions c.restate_into.new.noted
    c.self.inside.pool) (Ok tt))
    c.self.view_is (exported-Exports c.args.one (terms_at c.self.inside.proof.trees c.args.hyps.now) (term_at c.self.inside.proof.trees c.args.concl.0)
    c.in_ok-_step.ensures.concludes c.args.sequent c.self.inside.exports c.restate_into.new.noted c.in_ok-_step.ensures.noted c.self.invariant)
