-- How often variables occur in a tree, and how far a type spreads at arguments by the numbers of their occurrences.
use Rattle.std.specs.Prelude.{ℕ, suc, ◌+◌, ◌-◌, ◌*◌, nat_eq, if◌then◌else◌, List, ◌∷◌}
use Rattle.lp_spec.specs.Trees.{Tree, SortType, SortKind, Var, Sym, App, Lam, Pi, size}

-- how often the variable d, counted from outside the tree, occurs in it
abbrev pub occurrences : ℕ → Tree → ℕ
occurrences d SortType = 0
occurrences d SortKind = 0
occurrences d (Var n) = if nat_eq n d then 1 else 0
occurrences d (Sym s) = 0
occurrences d (App f x) = occurrences d f + occurrences d x
occurrences d (Lam a b) = occurrences d a + occurrences (suc d) b
occurrences d (Pi a b) = occurrences d a + occurrences (suc d) b

-- how far a type spreads at arguments: the size of each leading domain for which there is an argument, and of what remains of the type, where
-- each argument adds what it has more than a variable as often as its variable occurs
abbrev pub spread_by : List Tree → Tree → ℕ
spread_by (u ∷ us) (Pi a b) = size a + occurrences 0 b * (size u - 1) + spread_by us b
spread_by _ ty = size ty
