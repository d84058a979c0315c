use Rattle.std.proofs.Common.{◌≡◌, subst, None}
use Rattle.hol_term.specs.Tables.{term_at, terms_at}
use Rattle.sequent.specs.Sequents as numbers
use Rattle.article_spec.specs.RuleSteps.{stated}
use Rattle.stack_machine.specs.Inferring.{Exports, exporting, first_saying}
use Rattle.stack_machine.specs.Stored.{store_view}
use Rattle.stack_machine.proofs.Stated.{Exports-memory, Exports-known, Exports-new}
use Rattle.stack_machine.proofs.store.Store.export.Goals as goal

pub returns-in_err-sequent : goal.returns-in_err-sequent
returns-in_err-sequent c = Exports-memory _ c.from_residual.ensures.1

pub returns-in-Some : goal.returns-in-Some
returns-in-Some c =
    subst (λ m. Exports m (exporting c.args.one (terms_at m.trees c.args.hyps.now) (term_at m.trees c.args.concl.0)) m c.judge.result) c.self.view_is
    (Exports-known {old = store_view c.self.inside.proof c.self.inside.names.items c.self.inside.cells.items c.self.inside.assumptions c.self.inside.exports
    c.self.inside.pool}
    c.args.one (terms_at c.self.inside.proof.trees c.args.hyps.now) (term_at c.self.inside.proof.trees c.args.concl.0)
    (numbers.sequent_at c.self.inside.proof.trees c.in_ok-sequent.sequent) c.in_ok-sequent.ensures.is c.judge.result
    c.in-Some._known c.is_proof.ensures c.self.invariant.run_known.exported c.in-Some.ensures c.judge.ensures.follows c.judge.ensures.refused)

pub returns-in-None : goal.returns-in-None
returns-in-None c =
    let m = c.args.self.now in
    let is : numbers.sequent_at m.trees c.in_ok-sequent.sequent ≡ stated (terms_at m.trees c.args.hyps.now) (term_at m.trees c.args.concl.0) =
    subst (λ m. numbers.sequent_at m.trees c.in_ok-sequent.sequent ≡ stated (terms_at m.trees c.args.hyps.now) (term_at m.trees c.args.concl.0))
    c.self.view_is c.in_ok-sequent.ensures.is in
    let none : None ≡ first_saying m (numbers.sequent_at m.trees c.in_ok-sequent.sequent) m.run.exports =
    subst (λ k. None ≡ first_saying k (numbers.sequent_at k.trees c.in_ok-sequent.sequent) k.run.exports) c.self.view_is c.in-None.ensures in
    Exports-new c.args.one (terms_at m.trees c.args.hyps.now) (term_at m.trees c.args.concl.0) (numbers.sequent_at m.trees c.in_ok-sequent.sequent) is
    c.export_next.result none c.export_next.ensures
