-- The weight of a declaration, and the bound that it sets on the steps of its check.
use Rattle.std.specs.Prelude.{ℕ, ◌+◌, ◌++◌, ◌-◌, ◌*◌, ◌^◌, min, List, [], ◌∷◌}
use Rattle.std.specs.Option.{option_map_or}
use Rattle.lp_spec.specs.Trees.{Tree, SortType, SortKind, Var, Sym, App, Lam, Pi, put_all, size}
use Rattle.lp_spec.specs.Modules.{Declaration, symbol_type}

-- how far a type spreads at arguments: the size of each leading domain for which there is an argument, and of what remains of the type,
-- each with the arguments before it put in
abbrev pub spread_after : List Tree → List Tree → Tree → ℕ
spread_after before (u ∷ us) (Pi a b) = size (put_all before a) + spread_after (before ++ u ∷ []) us b
spread_after before _ ty = size (put_all before ty)

abbrev pub spread : List Tree → Tree → ℕ
spread args ty = spread_after [] args ty

-- the spread of a symbol of the module at arguments
abbrev pub symbol_spread : List Declaration → ℕ → List Tree → ℕ
symbol_spread m s args = option_map_or (spread args) (symbol_type m s) 0

-- the spread of every occurrence of a symbol in a tree that is applied to these arguments
abbrev pub spreads : List Declaration → List Tree → Tree → ℕ
spreads m args SortType = 0
spreads m args SortKind = 0
spreads m args (Var n) = 0
spreads m args (Sym s) = symbol_spread m s args
spreads m args (App f x) = spreads m (x ∷ args) f + spreads m [] x
spreads m args (Lam a b) = spreads m [] a + spreads m [] b
spreads m args (Pi a b) = spreads m [] a + spreads m [] b

abbrev pub tree_weight : List Declaration → Tree → ℕ
tree_weight m t = size t + spreads m [] t

-- the sizes of its type and of its body, and the spread of every symbol in either
abbrev pub weight : List Declaration → Declaration → ℕ
weight m d = tree_weight m d.ty + option_map_or (tree_weight m) d.body 0

-- the greatest u128
abbrev pub greatest : ℕ
greatest = 2 ^ 128 - 1

-- how many steps the check of a declaration may take
abbrev pub bound : List Declaration → Declaration → ℕ
bound m d = let w = weight m d in min (64 * (w * w * w)) greatest
