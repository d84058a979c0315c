-- Numbers of steps in order of making, without repeats.
use Rattle.std.specs.Prelude.{ℕ, ◌<◌, List, length, slice_index}
use Rattle.hol_spec.specs.Proofs.{Made}
use Rattle.hol_rules.specs.Views.{step_at}
use Rattle.translate_spec.specs.Image.{step_name}

pub record IsRising (ids : List ℕ) : Type 0 where
  pub each : (i j : ℕ) → i < j → j < length ids → slice_index ids i < slice_index ids j

-- the name of a step among the assumptions and the exports with these numbers
abbrev pub name_among : List Made → List ℕ → List ℕ → ℕ → List ℕ
name_among made assumptions exports id = step_name (record { made = made; assumptions = assumptions; exports = exports }) id (step_at made id).kind
