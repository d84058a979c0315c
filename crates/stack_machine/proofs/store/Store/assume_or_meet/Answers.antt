use Rattle.std.proofs.Common.{◌≡◌, sym, subst, Some, None}
use Rattle.std.specs.Option.{option_or}
use Rattle.hol_term.specs.Tables.{term_at, terms_at}
use Rattle.sequent.specs.Sequents as numbers
use Rattle.article_spec.specs.RuleSteps.{stated}
use Rattle.stack_machine.specs.Inferring.{first_saying}
use Rattle.stack_machine.specs.Shown.{in_state}
use Rattle.stack_machine.proofs.Stated.{Infers-as, Infers-memory, assuming-met, assuming-new}
use Rattle.stack_machine.proofs.store.Store.assume_or_meet.Goals as goal

pub returns-in_err-sequent : goal.returns-in_err-sequent
returns-in_err-sequent c = Infers-memory _ c.from_residual.ensures.1

pub returns-in-Some : goal.returns-in-Some
returns-in-Some c =
    let m = c.args.self.now in
    let is : numbers.sequent_at m.trees c.in_ok-sequent.sequent ≡ stated (terms_at m.trees c.args.hyps.now) (term_at m.trees c.args.concl.0) =
    subst (λ m. numbers.sequent_at m.trees c.in_ok-sequent.sequent ≡ stated (terms_at m.trees c.args.hyps.now) (term_at m.trees c.args.concl.0))
    c.self.view_is c.in_ok-sequent.ensures.is in
    Infers-as (λ s below. assuming-met (in_state s below m.run) (terms_at m.trees c.args.hyps.now) (term_at m.trees c.args.concl.0) c.in-Some.id
    (sym (subst (λ q. Some c.in-Some.id ≡ option_or (first_saying m q m.run.pool) (first_saying m q m.run.assumptions)) is c.in-Some.ensures.first)))
    c.restate.ensures

pub returns-in-None : goal.returns-in-None
returns-in-None c =
    let m = c.args.self.now in
    let is : numbers.sequent_at m.trees c.in_ok-sequent.sequent ≡ stated (terms_at m.trees c.args.hyps.now) (term_at m.trees c.args.concl.0) =
    subst (λ m. numbers.sequent_at m.trees c.in_ok-sequent.sequent ≡ stated (terms_at m.trees c.args.hyps.now) (term_at m.trees c.args.concl.0))
    c.self.view_is c.in_ok-sequent.ensures.is in
    Infers-as (λ s below. assuming-new (in_state s below m.run) (terms_at m.trees c.args.hyps.now) (term_at m.trees c.args.concl.0)
    (sym (subst (λ q. None ≡ option_or (first_saying m q m.run.pool) (first_saying m q m.run.assumptions)) is c.in-None.ensures.first))) c.assume_next.ensures
