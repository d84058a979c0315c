-- The spreads of a tree's symbols as they are noted, that of its head by what is left of the symbol's type.
use Rattle.std.specs.Prelude.{◌≡◌, ℕ, ◌+◌, ◌<◌, List, length, Some, slice_get}
use Rattle.lp_spec.specs.Trees.{Tree, Pi}
use Rattle.lp_term.specs.Tables.{tree_at}
use Rattle.holide_sig.specs.declared.module.Module.{Module}
use Rattle.holide_sig.specs.Modules.{declarations_of}
use Rattle.lp_weight.specs.declared.column.Head.{Head}
use Rattle.lp_weight.specs.declared.column.Front.{Front}
use Rattle.lp_weight.specs.declared.column.Front.TheVariants.{Symbol, Plain}
use Rattle.lp_weight.specs.declared.column.Spread.{Spread}
use Rattle.lp_weight.specs.declared.weighing.Weights.{Weights}
use Rattle.lp_weight.specs.Saturation.{saturated}
use Rattle.lp_weight.specs.Measures.{place_occurrences, IsIdle}
use Rattle.lp_weight.specs.Occurrences.{occurrences, spread_by}
use Rattle.lp_weight.specs.Weights.{head_spread, inner_spreads}

-- at further arguments, the symbol at the tree's head spreads by what is noted and as what is left of its type does
pub record IsAfter (m : Module) (t : Tree) (head : Head) : Type 0 where
  pub known : head.rest.0 < length m.table
  pub total : ℕ
  pub spent : head.spent ≡ saturated total
  pub spread : (args : List Tree) → head_spread (declarations_of m) args t ≡ total + spread_by args (tree_at m.table head.rest.0)

-- if the tree is a product, its variable occurs so often in its body
abbrev pub IsCount : Tree → ℕ → Type 0
IsCount (Pi a b) n = n ≡ saturated (occurrences 0 b)
IsCount _ n = Unit {0}

-- no symbol of the module stands at the tree's head, and this is how often its variable occurs, if it is a product
pub record IsPlain (m : Module) (t : Tree) (n : ℕ) : Type 0 where
  pub none : (args : List Tree) → head_spread (declarations_of m) args t ≡ 0
  pub count : IsCount t n

-- this is noted of the tree's front
abbrev pub IsFront : Module → Tree → Front → Type 0
IsFront m t (Symbol head) = IsAfter m t head
IsFront m t (Plain count) = IsPlain m t count

-- the spreads are those of the tree's symbols
pub record IsSpread (m : Module) (t : Tree) (spread : Spread) : Type 0 where
  pub front : IsFront m t spread.front
  pub inner : spread.inner ≡ saturated (inner_spreads (declarations_of m) t)

-- each spread of a column is that of the tree with its number
abbrev pub IsColumn : Module → List Spread → Type 0
IsColumn m column = (i : ℕ) (spread : Spread) → slice_get column i ≡ Some spread → IsSpread m (tree_at m.table i) spread

-- what is noted is so in this module
pub record AreWeights (m : Module) (weights : Weights) : Type 0 where
  pub walk : IsIdle (place_occurrences m) weights.walk
  pub column : IsColumn m weights.column
