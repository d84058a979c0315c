-- The words that are handed to `clap`.
use Rattle.std.specs.Prelude.{ℕ, ◌==◌, ◌||◌, not, Bool, false, List, [], ◌∷◌}
use Rattle.std.specs.List.{list_all}

-- a word that isn't empty and doesn't begin with a dash, or that begins with two and goes on
abbrev pub is_readable : List ℕ → Bool
is_readable [] = false
is_readable (b ∷ []) = not (b == 45)
is_readable (b ∷ c ∷ []) = not (b == 45)
is_readable (b ∷ c ∷ d ∷ ds) = not (b == 45) || c == 45

-- .. and so is each of some words
abbrev pub are_readable : List (List ℕ) → Bool
are_readable words = list_all is_readable words
