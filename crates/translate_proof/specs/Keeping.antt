-- Parameters of steps that are kept, and those that are lent.
use Rattle.std.specs.Prelude.{All, Option, Some, None}
use Rattle.hol_rules.specs.Kept.{Kept}
use Rattle.sequent.specs.declared.params.Params.{Params}
use Rattle.translate_proof.specs.declared.kept.KeptParams.{KeptParams}
use Rattle.translate_proof.specs.declared.kept.LentParams.{LentParams}
use Rattle.translate_proof.specs.declared.kept.LentParams.TheVariants.{Lent, Found}
use Rattle.translate_proof.specs.declared.kept.StepParams.{StepParams}
use Rattle.translate_proof.specs.Parameters.{AreParams}

-- what is kept at a place are the parameters of the step that it names
abbrev pub IsKept : Kept → Option StepParams → Type 0
IsKept k None = Unit {0}
IsKept k (Some one) = AreParams k one.id one.params

-- all that is kept are parameters of steps
pub record AreKept (k : Kept) (kept : KeptParams) : Type 0 where
  pub each : All (IsKept k) kept.places.items

-- the parameters that are lent
abbrev pub lent_params : LentParams → Params
lent_params (Lent params) = params.now
lent_params (Found params) = params
