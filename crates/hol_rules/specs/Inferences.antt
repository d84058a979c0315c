-- By which rule a step was made, and from which steps.
use Rattle.std.specs.Prelude.{ℕ, List}
use Rattle.hol_spec.specs.declared.StepKind.{StepKind}

-- the rule, and the numbers of the premises in their order
pub record Inferred : Type 0 where
  pub kind : StepKind
  pub premises : List ℕ
