-- A first law with the second behind it.
use Rattle.std.specs.Prelude.{◌≡◌, ℕ, suc, ◌<◌}
use Rattle.hol_spec.specs.declared.StepKind.TheVariants.{FirstLaw, SecondLaw}
use Rattle.hol_rules.specs.Kept.{Kept, step_count}
use Rattle.hol_rules.specs.Views.{step_at}

-- if the step is a first law, the next is a second one
abbrev pub IsFollowed : Kept → ℕ → Type 0
IsFollowed p i = (step_at p.made i).kind ≡ FirstLaw → (suc i < step_count p) × ((step_at p.made (suc i)).kind ≡ SecondLaw)
