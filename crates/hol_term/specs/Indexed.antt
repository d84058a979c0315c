-- Where an entry is found among entries by number.
use Rattle.std.specs.Prelude.{◌≡◌, ◌⊎◌, ℕ, ◌<◌, ◌-◌, ◌^◌, ◌==◌, max, if◌then◌else◌, Bool, true, false, List, [], ◌∷◌, ◌++◌, length, map, Option, None, Some, slice_get}
use Rattle.std.specs.BTreeMap.{BTreeMap, get}
use Rattle.std.specs.declared.cmp.Ordering.{Ordering}
use Rattle.hol_term.specs.declared.node.Node.{Node}
use Rattle.hol_term.specs.declared.node.Node.TheVariants as node
use Rattle.hol_term.specs.declared.node.Entry.{Entry}
use Rattle.hol_term.specs.declared.entries.Children.{Children}
use Rattle.hol_term.specs.declared.entries.Slot.{Slot}
use Rattle.hol_term.specs.declared.entries.Slot.TheVariants as slot
use Rattle.hol_term.specs.contracts.node.NodeOrd.TheImpl as node_ord

-- the order of nodes
abbrev pub node_cmp : Node → Node → Ordering
node_cmp = node_ord.cmp-value.it

-- the nodes of some entries
abbrev pub nodes_of : List Entry → List Node
nodes_of es = map (λ (e : Entry). e.node) es

-- where an entry stands after it was put: last if its node was new, and else where that stood
abbrev pub IsInserted : List Entry → List Entry → Entry → ℕ → Bool → Type 0
IsInserted old new e i true = (new ≡ old ++ e ∷ []) × (i ≡ length old) × ((j : ℕ) (o : Entry) → slice_get old j ≡ Some o → o.node ≡ e.node → ⊥)
IsInserted old new e i false = (new ≡ old) × ((o : Entry) × (slice_get old i ≡ Some o) × (o.node ≡ e.node))

-- the greatest part of a node, if it has parts
abbrev pub greater_part : Node → Option ℕ
greater_part (node.Free name ty) = None
greater_part (node.Bound k) = None
greater_part (node.Const name ty) = None
greater_part (node.App f x) = Some (max f.0 x.0)
greater_part (node.Lam ty b) = Some b.0

-- the number that a tree of nodes has for a node
abbrev pub kept_in : BTreeMap Node ℕ → Node → Option ℕ
kept_in others s = get node_cmp others s

-- the number of no node
abbrev pub nothing : ℕ
nothing = 2 ^ 32 - 1

abbrev pub no_children : Children
no_children = record { first = nothing; second = nothing; third = nothing }

-- one more child, in the first slot that is free, or else in the last
abbrev pub with_child : Children → ℕ → Children
with_child c n =
    if c.first == nothing then record { first = n; second = c.second; third = c.third }
    else if c.second == nothing then record { first = c.first; second = n; third = c.third }
    else record { first = c.first; second = c.second; third = n }

-- the number is one of the children
abbrev pub IsChild : Children → ℕ → Type 0
IsChild c n = (c.first ≡ n) ⊎ ((c.second ≡ n) ⊎ (c.third ≡ n))

-- there is room for one more child
abbrev pub HasRoom : Children → Type 0
HasRoom c = c.third ≡ nothing

-- the number is that of the node
abbrev pub Has : List Node → ℕ → Node → Type 0
Has nodes n s = slice_get nodes n ≡ Some s

-- the node has no number
abbrev pub Lacks : List Node → Node → Type 0
Lacks nodes s = (n : ℕ) → Has nodes n s → ⊥

-- the greatest part of the node has no room for this number: it has three children, or the number is too great for a child
abbrev pub IsFull : List Children → Node → ℕ → Type 0
IsFull children s n = (p : ℕ) (c : Children) → greater_part s ≡ Some p → slice_get children p ≡ Some c → HasRoom c → n < nothing → ⊥

-- the node of a number stands with its greatest part
pub record IsWith (children : List Children) (s : Node) (n : ℕ) : Type 0 where
  pub part : ℕ
  pub with : Children
  pub greater : greater_part s ≡ Some part
  pub at : slice_get children part ≡ Some with
  pub child : IsChild with n

-- the node of a number stands in the tree of nodes, as its greatest part has no room
pub record IsApart (children : List Children) (kept : Node → Option ℕ) (s : Node) (n : ℕ) : Type 0 where
  pub found : kept s ≡ Some n
  pub full : IsFull children s n

-- each node is found, the tree of nodes has none but these, and the parts of a node come before it
pub record IsIndexed (nodes : List Node) (children : List Children) (kept : Node → Option ℕ) : Type 0 where
  pub each : (n : ℕ) (s : Node) → Has nodes n s → IsWith children s n ⊎ IsApart children kept s n
  pub told : (n : ℕ) (s : Node) → kept s ≡ Some n → Has nodes n s
  pub lower : (n : ℕ) (s : Node) (p : ℕ) → Has nodes n s → greater_part s ≡ Some p → p < n
  pub count : length children ≡ length nodes

-- where a node is, or where it is to be put: with a part that has room for the next number, or else apart
abbrev pub Finds : List Node → List Children → Node → Slot → Type 0
Finds nodes children s (slot.At n) = Has nodes n s
Finds nodes children s (slot.With p) = Lacks nodes s × (length nodes < nothing) × (greater_part s ≡ Some p)
    × ((c : Children) × (slice_get children p ≡ Some c) × HasRoom c)
Finds nodes children s slot.Apart = Lacks nodes s × IsFull children s (length nodes)

-- the number is the node's, or the node has none
abbrev pub FindsNumber : List Node → Node → Option ℕ → Type 0
FindsNumber nodes s (Some n) = Has nodes n s
FindsNumber nodes s None = Lacks nodes s

-- the number that the tree of nodes has for the node, or that it has none
abbrev pub FindsOther : (Node → Option ℕ) → Node → Slot → Type 0
FindsOther kept s (slot.At n) = kept s ≡ Some n
FindsOther kept s (slot.With p) = ⊥
FindsOther kept s slot.Apart = kept s ≡ None

-- the node has this number no more, and each other has the number that it had
pub record Forgets (old new : Node → Option ℕ) (node : Node) (number : ℕ) : Type 0 where
  pub stays : (s : Node) (n : ℕ) → old s ≡ Some n → (n ≡ number → ⊥) → new s ≡ Some n
  pub was : (s : Node) (n : ℕ) → new s ≡ Some n → old s ≡ Some n
  pub gone : new node ≡ Some number → ⊥
