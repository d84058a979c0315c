-- Entries by number, and where their numbers are found.
use Rattle.std.specs.Prelude.{◌≡◌, ℕ, Bool, true, false, List, [], ◌∷◌, ◌++◌, length, Option, Some, slice_get}
use Rattle.std.specs.BTreeMap.{BTreeMap, get}
use Rattle.std.specs.Ordering.{is_eq}
use Rattle.std.specs.declared.cmp.Ordering.{Ordering}
use Rattle.hol_type.specs.declared.node.Node.{Node}
use Rattle.hol_type.specs.declared.node.Entry.{Entry}
use Rattle.hol_type.specs.contracts.node.NodeOrd.TheImpl as node_ord

-- the order of nodes
abbrev pub node_cmp : Node → Node → Ordering
node_cmp = node_ord.cmp-value.it

-- neither node comes before the other: they have the same name and the same arguments
abbrev pub AreAlike : Node → Node → Type 0
AreAlike s t = is_eq (node_cmp s t) ≡ true

-- where an entry stands after it was put: last if its node was new, and else where that stood
abbrev pub IsInserted : List Entry → List Entry → Entry → ℕ → Bool → Type 0
IsInserted old new e i true = (new ≡ old ++ e ∷ []) × (i ≡ length old) × ((j : ℕ) (o : Entry) → slice_get old j ≡ Some o → AreAlike o.node e.node → ⊥)
IsInserted old new e i false = (new ≡ old) × ((o : Entry) × (slice_get old i ≡ Some o) × AreAlike o.node e.node)

-- the number that a tree of nodes has for a node
abbrev pub number_in : BTreeMap Node ℕ → Node → Option ℕ
number_in numbers s = get node_cmp numbers s

-- the node of each entry has its number, and no node has another
pub record AreNumbered (es : List Entry) (number : Node → Option ℕ) : Type 0 where
  pub each : (i : ℕ) (e : Entry) → slice_get es i ≡ Some e → number e.node ≡ Some i
  pub told : (i : ℕ) (s : Node) → number s ≡ Some i → (e : Entry) × (slice_get es i ≡ Some e) × AreAlike e.node s
