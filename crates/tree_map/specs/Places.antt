-- The places of keys, and where they are found.
use Rattle.std.specs.Prelude.{◌≡◌, ℕ, suc, ◌<◌, Bool, cond, List, [], ◌∷◌, length, Option, Some, None, option_map, slice_get}

-- the first place at which a test passes
abbrev pub place : {T : Type 0} → (T → Bool) → List T → Option ℕ
place test [] = None
place test (x ∷ xs) = cond (test x) (Some 0) (option_map suc (place test xs))

-- each key is found at its place
abbrev pub Finds : {T : Type 0} → (T → T → Bool) → (T → Option ℕ) → List T → Type 0
Finds {T} eq found keys = (q : T) → found q ≡ place (eq q) keys

-- each key is found at its place, and y at the next one
abbrev pub FindsWith : {T : Type 0} → (T → T → Bool) → (T → Option ℕ) → List T → T → Type 0
FindsWith {T} eq found keys y = (q : T) → found q ≡ cond (eq y q) (Some (length keys)) (place (eq q) keys)

-- each key is found at its place where there are more than eight, and no key has two places
pub record ArePlaced {T : Type 0} (eq : T → T → Bool) (found : T → Option ℕ) (keys : List T) : Type 0 where
  pub at : 8 < length keys → Finds eq found keys
  pub once : (n : ℕ) (x : T) → slice_get keys n ≡ Some x → place (eq x) keys ≡ Some n
