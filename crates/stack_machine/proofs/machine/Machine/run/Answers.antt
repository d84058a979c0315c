use Rattle.std.proofs.Common.{◌≡◌, ap, sym, subst, ◌∙◌, [], ◌∷◌, Ok}
use Rattle.article_spec.specs.State as state
use Rattle.article_spec.specs.Step.{obey_item}
use Rattle.stack_machine.specs.declared.object.Object.TheVariants as object
use Rattle.stack_machine.specs.Stored.{AreKnown}
use Rattle.stack_machine.specs.StoredLaws.{AreKnown-Grows}
use Rattle.stack_machine.specs.Shown.{shown, article_state}
use Rattle.stack_machine.proofs.Passing.{always}
use Rattle.stack_machine.proofs.Placed.{placed-view, placed-known}
use Rattle.stack_machine.proofs.Dictionaries.{entries-Grow}
use Rattle.stack_machine.proofs.PutAgain.{remembered-Grow}
use Rattle.stack_machine.proofs.Frames.{shown-Grows, placed-shown}
use Rattle.stack_machine.proofs.machine.Machine.run.Goals as goal

pub invariant_of-self-in_err-name-in-Name : goal.invariant_of-self-in_err-name-in-Name
invariant_of-self-in_err-name-in-Name c = (
  AreKnown-Grows c.keep_name.ensures.grows c.self-in-Name.inside.stack c.self-in-Name.invariant.0,
  entries-Grow c.keep_name.ensures.grows c.self-in-Name.inside.dictionary.entries c.self-in-Name.invariant.1,
  remembered-Grow c.keep_name.ensures.grows c.self-in-Name.inside.remembered c.self-in-Name.invariant.2,
)

pub returns-in_err-name-in-Name-clause-unchanged : goal.returns-in_err-name-in-Name-clause-unchanged
returns-in_err-name-in-Name-clause-unchanged c = always c.from_residual-in_err-name-in-Name.result
    (rw (← c.self-in-Name.view_is)
    (shown-Grows c.keep_name.ensures.grows c.self-in-Name.inside.stack c.self-in-Name.inside.dictionary.entries c.self-in-Name.inside.progress
    c.self-in-Name.invariant.0 c.self-in-Name.invariant.1 c.keep_name.ensures.run))

pub invariant_of-self-in_err-push-in-Name : goal.invariant_of-self-in_err-push-in-Name
invariant_of-self-in_err-push-in-Name c = (
  subst (AreKnown c.keep_name.new.self) (sym c.in_err-push-in-Name.ensures.unchanged)
      (AreKnown-Grows c.keep_name.ensures.grows c.self-in-Name.inside.stack c.self-in-Name.invariant.0),
  entries-Grow c.keep_name.ensures.grows c.self-in-Name.inside.dictionary.entries c.self-in-Name.invariant.1,
  remembered-Grow c.keep_name.ensures.grows c.self-in-Name.inside.remembered c.self-in-Name.invariant.2,
)

pub returns-in_err-push-in-Name-clause-unchanged : goal.returns-in_err-push-in-Name-clause-unchanged
returns-in_err-push-in-Name-clause-unchanged c = always c.from_residual-in_err-push-in-Name.result
    (rw (← c.self-in-Name.view_is)
    (ap (λ xs. shown c.keep_name.new.self xs (article_state c.keep_name.new.self c.self-in-Name.inside.dictionary.entries c.self-in-Name.inside.progress))
    c.in_err-push-in-Name.ensures.unchanged
    ∙ shown-Grows c.keep_name.ensures.grows c.self-in-Name.inside.stack c.self-in-Name.inside.dictionary.entries c.self-in-Name.inside.progress
    c.self-in-Name.invariant.0 c.self-in-Name.invariant.1 c.keep_name.ensures.run))

pub invariant_of-self-in-Name : goal.invariant_of-self-in-Name
invariant_of-self-in-Name c = (
  placed-known c.keep_name.ensures.grows c.self-in-Name.inside.stack _ (object.Name c.in_ok-name-in-Name.name ∷ []) 0 c.self-in-Name.invariant.0
      c.in_ok-push-in-Name.ensures.pushed (c.in_ok-name-in-Name.ensures.known, tt),
  entries-Grow c.keep_name.ensures.grows c.self-in-Name.inside.dictionary.entries c.self-in-Name.invariant.1,
  remembered-Grow c.keep_name.ensures.grows c.self-in-Name.inside.remembered c.self-in-Name.invariant.2,
)

pub returns-in_ok-push-in-Name-clause-taken : goal.returns-in_ok-push-in-Name-clause-taken
returns-in_ok-push-in-Name-clause-taken c =
    let e = placed-view c.keep_name.ensures.grows c.self-in-Name.inside.stack c.push-in-Name.new.self (object.Name c.in_ok-name-in-Name.name ∷ []) 0
    c.self-in-Name.invariant.0 c.in_ok-push-in-Name.ensures.pushed (state.Object.name _ ∷ [])
    (ap (λ n. state.Object.name n ∷ []) c.in_ok-name-in-Name.ensures.kept) in
    subst (λ i. obey_item c.args.self.now i ≡ Ok
    (shown c.keep_name.new.self c.push-in-Name.new.self
    (article_state c.keep_name.new.self c.self-in-Name.inside.dictionary.entries c.self-in-Name.inside.progress))) (sym c.in-Name.is)
    (rw (← c.self-in-Name.view_is)
    (ap Ok (placed-shown c.keep_name.ensures.grows c.self-in-Name.inside.stack c.push-in-Name.new.self _ c.self-in-Name.inside.dictionary.entries
    c.self-in-Name.inside.progress c.self-in-Name.invariant.1 e c.keep_name.ensures.run)))
