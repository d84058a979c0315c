-- A word is obeyed.
use Rattle.std.specs.Prelude.{◌≡◌, List, Result, Ok, OnOk, OnErr, IfErr}
use Rattle.common.specs.declared.faults.Fault.{Fault}
use Rattle.article_spec.specs.declared.commands.Word.{Word}
use Rattle.article_spec.specs.State.{State, version_at}
use Rattle.article_spec.specs.Results.{Fails}
use Rattle.article_spec.specs.Step.{obey}
use Rattle.hol_spec.specs.declared.Version.{Version}
use Rattle.stack_machine.specs.declared.object.Object.{Object}
use Rattle.stack_machine.specs.Stored.{Stored, AreKnown, Grows}
use Rattle.stack_machine.specs.Shown.{shown}

-- What is kept and the stack become those of the word's next state, or the word is refused as its definition says. What had a number keeps it. After a fault the state is as before.
pub record Obeys (word : Word) (old : Stored) (stack : List Object) (new : Stored) (after : List Object) (result : Result (Unit {0}) Fault) : Type 0 where
  pub taken : OnOk result ((s : State) → obey (shown old stack s) word ≡ Ok (shown new after s))
  pub refused : IfErr result (λ fault. (s : State) → Fails fault (obey (shown old stack s) word))
  pub known : AreKnown new after
  pub grows : Grows old new
  pub same : OnErr result (after ≡ stack)
  pub run : OnErr result (new.run ≡ old.run)

-- The same in an article of a version.
pub record ObeysIn (version : Version) (word : Word) (old : Stored) (stack : List Object) (new : Stored) (after : List Object)
    (result : Result (Unit {0}) Fault) : Type 0 where
  pub taken : OnOk result ((s : State) → version_at s.place ≡ version → obey (shown old stack s) word ≡ Ok (shown new after s))
  pub refused : IfErr result (λ fault. (s : State) → version_at s.place ≡ version → Fails fault (obey (shown old stack s) word))
  pub known : AreKnown new after
  pub grows : Grows old new
  pub same : OnErr result (after ≡ stack)
  pub run : OnErr result (new.run ≡ old.run)

-- The same of the machine's state, which after a fault is as before.
pub record IsObeyed (word : Word) (old new : State) (result : Result (Unit {0}) Fault) : Type 0 where
  pub taken : OnOk result (obey old word ≡ Ok new)
  pub refused : IfErr result (λ fault. Fails fault (obey old word))
  pub unchanged : OnErr result (new ≡ old)
