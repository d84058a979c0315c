-- Places in lists, counted from nought.
use Rattle.std.specs.Prelude.{ℕ, suc, Bool, cond, List, [], ◌∷◌, Option, None, Some}
use Rattle.std.specs.Option.{option_map}

-- one place on
abbrev pub next_place : Option ℕ → Option ℕ
next_place o = option_map suc o

module _ {A : Type 0} (test : A → Bool) where
  -- the place of the first that passes
  abbrev pub first_place : List A → Option ℕ
  first_place [] = None
  first_place (x ∷ xs) = cond (test x) (Some 0) (next_place (first_place xs))
