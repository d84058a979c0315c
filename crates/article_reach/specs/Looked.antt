-- The steps of a proof that were looked at, from the last on.
use Rattle.std.specs.Prelude.{◌≡◌, ℕ, ◌<◌, ◌≤◌, List, [], length, drop, map, Bool}
use Rattle.std.specs.List.{AllByRecursion, flat_map}
use Rattle.hol_spec.specs.Names.{Name}
use Rattle.hol_spec.specs.Proofs.{steps_of}
use Rattle.hol_rules.specs.Kept.{Kept, step_count}
use Rattle.article_write_spec.specs.Mentions.{Need, step}
use Rattle.article_write_spec.specs.ReachedSteps.{Numbered, reached_from}
use Rattle.article_write_spec.specs.BinderNames.{step_variables}
use Rattle.article_write_laws.specs.ReachLaws.{is_flagged}
use Rattle.article_lines.specs.Flagged.{flag}
use Rattle.article_reach.specs.declared.walk.Walk.{Walk}
use Rattle.article_reach.specs.Found.{Found, Asked, is_found, IsAsked}
use Rattle.article_reach.specs.Walks.{is_marked, IsWalk, Wants}

abbrev pub IsWalkOf : Kept → Walk → Type 0
IsWalkOf p w = IsWalk p.trees (step_count p) w

abbrev pub WantsOf : Kept → List Found → Walk → Walk → Type 0
WantsOf p fs old new = Wants p.trees fs old new

-- a walk on, which reaches what it reached, and what is found here
pub record WalksOn (p : Kept) (fs : List Found) (old new : Walk) : Type 0 where
  pub walk : IsWalkOf p new
  pub wants : WantsOf p fs old new

abbrev pub AreSteps : Kept → List ℕ → Type 0
AreSteps p ids = AllByRecursion (λ i. i < step_count p) ids

abbrev pub roots_of : List ℕ → List Need
roots_of exports = map step exports

-- the names of the variables of steps
abbrev pub names_of : List Numbered → List Name
names_of steps = map (λ v. v.0) (flat_map (λ x. step_variables x.step) steps)

-- what was reached of a proof's steps from a number on
abbrev pub needed_from : Kept → List ℕ → ℕ → List Need
needed_from p exports i = (reached_from (roots_of exports) i (drop i (steps_of p.made))).needed

abbrev pub reached_behind : Kept → List ℕ → ℕ → List Numbered
reached_behind p exports i = (reached_from (roots_of exports) i (drop i (steps_of p.made))).steps

-- what is found in needs, and in the names of variables
abbrev pub needs_found : List Need → List Found
needs_found needs = map Found.needed needs

abbrev pub names_found : List Name → List Found
names_found names = map Found.named names

-- the steps from a number on were looked at: what is marked is what they need, and the names of their variables; the flags are theirs
pub record IsLooked (p : Kept) (exports : List ℕ) (w : Walk) (told : List Bool) (i : ℕ) : Type 0 where
  pub walk : IsWalkOf p w
  pub tasks : w.tasks ≡ []
  pub needed : (m : Need) → is_marked w (Asked.need m) ≡ is_found (needs_found (needed_from p exports i)) (Asked.need m)
  pub numbers : (q : ℕ) → IsAsked (Asked.number q) → is_marked w (Asked.number q)
      ≡ is_found (names_found (names_of (reached_behind p exports i))) (Asked.number q)
  pub count : length told ≡ step_count p
  pub each : (j : ℕ) → i ≤ j → flag told j ≡ is_flagged (roots_of exports) i (drop i (steps_of p.made)) j
  pub within : i ≤ step_count p
