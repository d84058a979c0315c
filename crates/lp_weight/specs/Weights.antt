-- Weights and bounds by number, and the spreads of a tree's symbols, that of its head apart.
use Rattle.std.specs.Prelude.{ℕ, ◌+◌, List, [], ◌∷◌, slice_get}
use Rattle.std.specs.Option.{option_map_or}
use Rattle.lp_spec.specs.Trees.{Tree, SortType, SortKind, Var, Sym, App, Lam, Pi}
use Rattle.lp_spec.specs.Modules.{Declaration}
use Rattle.lp_spec.specs.Weight.{symbol_spread, spreads, weight, bound}
use Rattle.lp_spec.specs.FastCheck.{fast_bound}

-- the weight of the declaration with this number
abbrev pub weight_at : List Declaration → ℕ → ℕ
weight_at m i = option_map_or (weight m) (slice_get m i) 0

-- the bound of the declaration with this number
abbrev pub bound_at : List Declaration → ℕ → ℕ
bound_at m i = option_map_or (bound m) (slice_get m i) 0

-- the bound of its check without rechecks of sorts
abbrev pub fast_bound_at : List Declaration → ℕ → ℕ
fast_bound_at m i = option_map_or (fast_bound m) (slice_get m i) 0

-- the spread of the symbol at the head of a tree that is applied to these arguments, where a symbol stands there
abbrev pub head_spread : List Declaration → List Tree → Tree → ℕ
head_spread m args (App f x) = head_spread m (x ∷ args) f
head_spread m args (Sym s) = symbol_spread m s args
head_spread m args _ = 0

-- the spreads of all other symbols of a tree
abbrev pub inner_spreads : List Declaration → Tree → ℕ
inner_spreads m SortType = 0
inner_spreads m SortKind = 0
inner_spreads m (Var n) = 0
inner_spreads m (Sym s) = 0
inner_spreads m (App f x) = inner_spreads m f + spreads m [] x
inner_spreads m (Lam a b) = spreads m [] a + spreads m [] b
inner_spreads m (Pi a b) = spreads m [] a + spreads m [] b
