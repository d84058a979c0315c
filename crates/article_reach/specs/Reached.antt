-- What an article tells of the steps of a run.
use Rattle.std.specs.Prelude.{◌≡◌, ℕ, List, length, Bool}
use Rattle.hol_spec.specs.Proofs.{Made, steps_of, Accepted}
use Rattle.article_write_spec.specs.ReachedSteps.{reached_steps}
use Rattle.article_write_spec.specs.BinderNames.{binder_number}
use Rattle.article_write_laws.specs.Flags.{selected}
use Rattle.article_lines.specs.Flagged.{flag, AreExports}

-- by step, whether an article tells it and whether it is an export; and the number in the names of the binders
pub record Told : Type 0 where
  pub told : List Bool
  pub is_export : List Bool
  pub number : ℕ

-- The flags are those of the steps that the exports reach, and those of the exports; the number is the least that no name of a variable has.
pub record IsReach (made : List Made) (exports : List ℕ) (r : Told) : Type 0 where
  pub told_count : length r.told ≡ length (steps_of made)
  pub exports_count : length r.is_export ≡ length (steps_of made)
  pub exports_are : AreExports r.is_export exports
  pub reached : (run : Accepted) → run.made ≡ made → run.exports ≡ exports → selected (flag r.told) 0 (steps_of made) ≡ reached_steps run
  pub number : (run : Accepted) → run.made ≡ made → run.exports ≡ exports → r.number ≡ binder_number (reached_steps run)
