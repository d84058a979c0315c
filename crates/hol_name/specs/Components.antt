-- What reading one component leaves to be read.
use Rattle.std.specs.Prelude.{ℕ, ◌≡◌, ◌⊎◌, List, [], ◌∷◌, ◌++◌}
use Rattle.hol_spec.specs.Names.{Name, quote, dot, backslash}

-- the name with these bytes before its first component
abbrev pub onto : List ℕ → Name → Name
onto bytes [] = []
onto bytes (component ∷ name) = (bytes ++ component) ∷ name

-- a text that begins with what ends a component
abbrev pub StopsComponent : List ℕ → Type 0
StopsComponent [] = Unit {0}
StopsComponent (b ∷ text) = (b ≡ quote) ⊎ (b ≡ dot) ⊎ ((b ≡ backslash) × (text ≡ []))
