-- Steps whose theorems have no key yet.
use Rattle.std.specs.Prelude.{◌≡◌, ℕ, suc, ◌<◌, None}
use Rattle.hol_spec.specs.declared.StepKind.{StepKind}
use Rattle.hol_spec.specs.declared.StepKind.TheVariants.{FirstLaw, SecondLaw}
use Rattle.article_lines.specs.declared.keys.Thing.TheVariants as thing
use Rattle.article_lines.specs.Things.{Keyed, thing_key}

abbrev pub IsNew : Keyed → ℕ → Type 0
IsNew keys i = thing_key keys (thing.Theorem i) ≡ None

-- The first law is made together with the second.
pub record AreNewLaws (keys : Keyed) (i : ℕ) : Type 0 where
  pub first : IsNew keys i
  pub second : IsNew keys (suc i)
  pub next : suc i < keys.theorems

abbrev pub IsNewStep : Keyed → StepKind → ℕ → Type 0
IsNewStep keys FirstLaw i = AreNewLaws keys i
IsNewStep keys SecondLaw i = Unit {0}
IsNewStep keys kind i = IsNew keys i
