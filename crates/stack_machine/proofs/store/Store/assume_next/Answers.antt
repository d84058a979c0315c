use Rattle.std.proofs.Common.{sym, subst}
use Rattle.hol_term.specs.Tables.{term_at, terms_at}
use Rattle.hol_rules.specs.Premises.{IsStated}
use Rattle.article_spec.specs.RuleSteps.{stated}
use Rattle.stack_machine.specs.Inferring.{Infers, recording}
use Rattle.stack_machine.specs.Stored.{store_view}
use Rattle.stack_machine.proofs.Stated.{assumed-IsStore, assumed-Infers, axiom-sequent}
use Rattle.stack_machine.proofs.store.Store.assume_next.Goals as goal

pub invariant_of-self : goal.invariant_of-self
invariant_of-self c =
    let is = subst (λ m. IsStated m.trees c.args.sequent (stated (terms_at m.trees c.args.hyps.now) (term_at m.trees c.args.concl.0))) (sym c.self.view_is)
    c.requires.stated in
    assumed-IsStore c.assume_into.ensures.concludes c.args.sequent c.self.inside.assumptions c.assume_into.new.noted c.assume_into.ensures.noted
    c.assume_into.ensures.unchanged
    (stated (terms_at c.self.inside.proof.trees c.args.hyps.now) (term_at c.self.inside.proof.trees c.args.concl.0)) is
    (axiom-sequent (terms_at c.self.inside.proof.trees c.args.hyps.now) (term_at c.self.inside.proof.trees c.args.concl.0)) c.self.invariant

pub returns : goal.returns
returns c =
    subst (λ m. Infers m (recording (terms_at m.trees c.args.hyps.now) (term_at m.trees c.args.concl.0))
    (store_view c.assume_into.new.proof c.self.inside.names.items c.self.inside.cells.items c.assume_into.new.noted c.self.inside.exports
    c.self.inside.pool) c.assume_into.result)
    c.self.view_is (assumed-Infers (terms_at c.self.inside.proof.trees c.args.hyps.now) (term_at c.self.inside.proof.trees c.args.concl.0)
    c.assume_into.ensures.concludes c.args.sequent c.self.inside.assumptions c.assume_into.new.noted c.assume_into.ensures.noted
    c.assume_into.ensures.unchanged c.self.invariant)
