-- Walks that make each part of something once, as a stack of tasks beside a memo of what was made.
use Rattle.std.specs.Prelude.{◌≡◌, ◌⊎◌, ℕ, ◌+◌, ◌*◌, List, [], ◌∷◌}
pub use Rattle.tree_map.specs.Noted.{IsNoted}
use Rattle.translate_term.specs.declared.tasks.Task.{Task}
use Rattle.translate_term.specs.declared.tasks.Task.TheVariants.{Visit, Join}

module _ {K V : Type 0} where
  -- something was made for the key
  abbrev pub IsDone : List (K × V) → K → Type 0
  IsDone entries key = (made : V) × IsNoted entries key made

module _ {K : Type 0} where
  -- what is so of each of some keys
  abbrev pub AreAll : (K → Type 0) → List K → Type 0
  AreAll P [] = Unit {0}
  AreAll P (key ∷ keys) = P key × AreAll P keys

  -- the visits of some keys from the first to the last, and then these tasks
  abbrev pub visits : List K → List (Task K) → List (Task K)
  visits [] tasks = tasks
  visits (key ∷ keys) tasks = Visit key ∷ visits keys tasks

  -- what is so of a key, or it is this one
  abbrev pub OrIs : (K → Type 0) → K → K → Type 0
  OrIs P key x = P x ⊎ (x ≡ key)

  -- how many turns the tasks take at most
  abbrev pub work : (K → ℕ) → List (Task K) → ℕ
  work size [] = 0
  work size (Visit key ∷ rest) = 2 * size key + work size rest
  work size (Join key ∷ rest) = 1 + work size rest

  -- each part of a key is such
  pub record PartsAre (HasParts : K → List K → Type 0) (P : K → Type 0) (key : K) : Type 0 where
    pub parts : List K
    pub of : HasParts key parts
    pub all : AreAll P parts

  -- where P is so of the keys that are done, the tasks come back to each after its parts, and end with the root done
  abbrev pub Ends : (K → Type 0) → (K → List K → Type 0) → K → List (Task K) → (K → Type 0) → Type 0
  Ends Known HasParts root [] P = P root
  Ends Known HasParts root (Visit key ∷ rest) P = Known key × Ends Known HasParts root rest (OrIs P key)
  Ends Known HasParts root (Join key ∷ rest) P = Known key × PartsAre HasParts P key × Ends Known HasParts root rest (OrIs P key)
