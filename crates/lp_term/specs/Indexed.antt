-- Where a shape is found among shapes by number.
use Rattle.std.specs.Prelude.{◌≡◌, ◌⊎◌, ℕ, ◌<◌, ◌-◌, ◌^◌, ◌==◌, max, if◌then◌else◌, List, length, Option, None, Some, slice_get}
use Rattle.std.specs.BTreeMap.{BTreeMap, get}
use Rattle.std.specs.declared.cmp.Ordering.{Ordering}
use Rattle.lp_term.specs.declared.shape.Shape.{Shape}
use Rattle.lp_term.specs.declared.shape.Shape.TheVariants as shape
use Rattle.lp_term.specs.declared.shapes.Children.{Children}
use Rattle.lp_term.specs.declared.shapes.Slot.{Slot}
use Rattle.lp_term.specs.declared.shapes.Slot.TheVariants as slot
use Rattle.lp_term.specs.contracts.shape.ShapeOrd.TheImpl as shape_ord

-- the greater part of a shape, if it has parts
abbrev pub greater_part : Shape → Option ℕ
greater_part shape.SortType = None
greater_part shape.SortKind = None
greater_part (shape.Var n) = None
greater_part (shape.Sym s) = None
greater_part (shape.App a b) = Some (max a b)
greater_part (shape.Lam a b) = Some (max a b)
greater_part (shape.Pi a b) = Some (max a b)

-- the order of shapes
abbrev pub shape_cmp : Shape → Shape → Ordering
shape_cmp = (shape_ord.ghosts).cmp

-- the number that a tree has for a shape
abbrev pub kept_in : BTreeMap Shape ℕ → Shape → Option ℕ
kept_in others s = get shape_cmp others s

-- the number of no shape
abbrev pub nothing : ℕ
nothing = 2 ^ 32 - 1

abbrev pub no_children : Children
no_children = record { first = nothing; second = nothing; third = nothing }

-- one more child, in the first slot that is free, or else in the last
abbrev pub with_child : Children → ℕ → Children
with_child c n =
    if c.first == nothing then record { first = n; second = c.second; third = c.third }
    else if c.second == nothing then record { first = c.first; second = n; third = c.third }
    else record { first = c.first; second = c.second; third = n }

-- the number is one of the children
abbrev pub IsChild : Children → ℕ → Type 0
IsChild c n = (c.first ≡ n) ⊎ ((c.second ≡ n) ⊎ (c.third ≡ n))

-- there is room for one more child
abbrev pub HasRoom : Children → Type 0
HasRoom c = c.third ≡ nothing

-- the number is that of the shape
abbrev pub Has : List Shape → ℕ → Shape → Type 0
Has shapes n s = slice_get shapes n ≡ Some s

-- the shape has no number
abbrev pub Lacks : List Shape → Shape → Type 0
Lacks shapes s = (n : ℕ) → Has shapes n s → ⊥

-- the greater part of the shape has no room
abbrev pub IsFull : List Children → Shape → Type 0
IsFull children s = (p : ℕ) (c : Children) → greater_part s ≡ Some p → slice_get children p ≡ Some c → HasRoom c → ⊥

-- the shape of a number stands with its greater part
pub record IsWith (children : List Children) (s : Shape) (n : ℕ) : Type 0 where
  pub part : ℕ
  pub with : Children
  pub greater : greater_part s ≡ Some part
  pub at : slice_get children part ≡ Some with
  pub child : IsChild with n

-- the shape of a number stands in the tree, as its greater part has no room
pub record IsApart (children : List Children) (kept : Shape → Option ℕ) (s : Shape) (n : ℕ) : Type 0 where
  pub found : kept s ≡ Some n
  pub full : IsFull children s

-- each shape is found, and its parts come before it
pub record IsIndexed (shapes : List Shape) (children : List Children) (kept : Shape → Option ℕ) : Type 0 where
  pub each : (n : ℕ) (s : Shape) → Has shapes n s → IsWith children s n ⊎ IsApart children kept s n
  pub lower : (n : ℕ) (s : Shape) (p : ℕ) → Has shapes n s → greater_part s ≡ Some p → p < n
  pub count : length children ≡ length shapes
  pub few : length shapes < 2 ^ 32

-- where a shape is, or where it is to be put: with a part that has room, or else apart
abbrev pub Finds : List Shape → List Children → Shape → Slot → Type 0
Finds shapes children s (slot.At n) = Has shapes n s
Finds shapes children s (slot.With p) = Lacks shapes s × (greater_part s ≡ Some p) × ((c : Children) × (slice_get children p ≡ Some c) × HasRoom c)
Finds shapes children s slot.Apart = Lacks shapes s × IsFull children s

-- the number that the tree has for the shape, or that it has none
abbrev pub FindsOther : List Shape → (Shape → Option ℕ) → Shape → Slot → Type 0
FindsOther shapes kept s (slot.At n) = Has shapes n s
FindsOther shapes kept s (slot.With p) = ⊥
FindsOther shapes kept s slot.Apart = (n : ℕ) → Has shapes n s → kept s ≡ Some n → ⊥
