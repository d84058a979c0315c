-- What a rule's answer makes of the stack.
use Rattle.std.specs.Prelude.{◌≡◌, ℕ, List, ◌∷◌, drop, Result, Ok, Err, IfOk, IfErr, OnOk, OnErr}
use Rattle.common.specs.declared.faults.Fault.{Fault}
use Rattle.stack_machine.specs.declared.object.Object.{Object}
use Rattle.stack_machine.specs.declared.object.Object.TheVariants as object

-- The step's theorem stands in place of so many objects on top; or the fault is answered, and the stack is as before.
pub record IsConcluded (count : ℕ) (old : List Object) (step : Result ℕ Fault) (new : List Object) (result : Result (Unit {0}) Fault) : Type 0 where
  pub theorem : IfOk step (λ i. new ≡ object.Theorem i ∷ drop count old)
  pub concluded : OnOk step (result ≡ Ok tt)
  pub same : OnErr step (new ≡ old)
  pub refused : IfErr step (λ fault. result ≡ Err fault)
