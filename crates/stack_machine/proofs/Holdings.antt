-- What is held where objects are held one after another.
use Rattle.std.proofs.Common.{◌≡◌, ℕ, zero, suc, ◌+◌, ◌<◌, ◌≤◌, refl, sym, ap, subst, ◌∙◌, arith, Bool, true, false, List, [], ◌∷◌, length, Some, ◌⊎◌, inl, inr}
use Rattle.std.specs.Prelude.{slice_get, slice_set}
use Rattle.std.specs.List.{fold}
use Rattle.std.proofs.lemmas.List.{length-set}
use Rattle.std.proofs.lemmas.Bool.{cases_lt}
use Rattle.std.proofs.lemmas.Option.{slice_get_within, same_Some}
use Rattle.stack_machine.specs.declared.object.List.{List as AList}
use Rattle.stack_machine.specs.declared.object.List.TheVariants.{Empty, Cell as CellOf}
use Rattle.stack_machine.specs.declared.object.Object.{Object}
use Rattle.stack_machine.specs.declared.object.Object.TheVariants as object
use Rattle.stack_machine.specs.declared.object.Cell.{Cell}
use Rattle.stack_machine.specs.Collecting.{Holding, IsSet, holding, holding_list, holding_parts, IsWithin, IsListWithin, IsHeld, IsListHeld, HoldsMore, AreBefore, IsClosed, IsClosedFrom}

-- a flag that is set
IsSet-set : (flags : List Bool) (i : ℕ) → i < length flags → IsSet (slice_set flags i true) i
IsSet-set [] i l = absurd (omega arith)
IsSet-set (b ∷ flags) zero l = refl
IsSet-set (b ∷ flags) (suc i) l = IsSet-set flags i (omega arith)

-- those that were set stay set
IsSet-more : (flags : List Bool) (i j : ℕ) → IsSet flags j → IsSet (slice_set flags i true) j
IsSet-more [] i j h = h
IsSet-more (b ∷ flags) zero zero h = refl
IsSet-more (b ∷ flags) zero (suc j) h = h
IsSet-more (b ∷ flags) (suc i) zero h = h
IsSet-more (b ∷ flags) (suc i) (suc j) h = IsSet-more flags i j h

-- those above were set before
IsSet-above : (flags : List Bool) (i j : ℕ) → i < j → IsSet (slice_set flags i true) j → IsSet flags j
IsSet-above [] i j l h = h
IsSet-above (b ∷ flags) i zero l h = absurd (omega arith)
IsSet-above (b ∷ flags) zero (suc j) l h = h
IsSet-above (b ∷ flags) (suc i) (suc j) l h = IsSet-above flags i j (omega arith) h

pub HoldsMore-refl : (h : Holding) → HoldsMore h h
HoldsMore-refl h = record { names = λ i s. s; cells = λ i s. s; name_count = refl; cell_count = refl }

pub HoldsMore-trans : {a b c : Holding} → HoldsMore a b → HoldsMore b c → HoldsMore a c
HoldsMore-trans h k = record {
  names = λ i s. k.names i (h.names i s);
  cells = λ i s. k.cells i (h.cells i s);
  name_count = k.name_count ∙ h.name_count;
  cell_count =
      k.cell_count ∙ h.cell_count;
}

more_name : (h : Holding) (n : ℕ) → HoldsMore h (record { names = slice_set h.names n true; cells = h.cells })
more_name h n = record { names = λ i s. IsSet-more h.names n i s; cells = λ i s. s; name_count = length-set h.names n true; cell_count = refl }

more_cell : (h : Holding) (n : ℕ) → HoldsMore h (record { names = h.names; cells = slice_set h.cells n true })
more_cell h n = record { names = λ i s. s; cells = λ i s. IsSet-more h.cells n i s; name_count = refl; cell_count = length-set h.cells n true }

more_list : (h : Holding) (xs : AList) → HoldsMore h (holding_list h xs)
more_list h Empty = HoldsMore-refl h
more_list h (CellOf c) = more_cell h c.0

-- an object more, and all of a list
pub more_object : (h : Holding) (x : Object) → HoldsMore h (holding h x)
more_object h (object.Number z) = HoldsMore-refl h
more_object h (object.Name n) = more_name h n.0
more_object h (object.List xs) = more_list h xs
more_object h (object.TypeOperator n) = more_name h n.0
more_object h (object.Type t) = HoldsMore-refl h
more_object h (object.Constant n) = more_name h n.0
more_object h (object.Variable n t) = more_name h n.0
more_object h (object.Term t) = HoldsMore-refl h
more_object h (object.Theorem i) = HoldsMore-refl h

pub more_objects : (h : Holding) (xs : List Object) → HoldsMore h (fold holding h xs)
more_objects h [] = HoldsMore-refl h
more_objects h (x ∷ xs) = HoldsMore-trans (more_object h x) (more_objects (holding h x) xs)

pub more_parts : (h : Holding) (c : Cell) → HoldsMore h (holding_parts h c)
more_parts h c = HoldsMore-trans (more_object h c.head) (more_list (holding h c.head) c.tail)

-- what was held is held on
list_held_on : {a b : Holding} → HoldsMore a b → (xs : AList) → IsListHeld a xs → IsListHeld b xs
list_held_on m Empty k = tt
list_held_on m (CellOf c) k = m.cells c.0 k

pub held_on : {a b : Holding} → HoldsMore a b → (x : Object) → IsHeld a x → IsHeld b x
held_on m (object.Number z) k = tt
held_on m (object.Name n) k = m.names n.0 k
held_on m (object.List xs) k = list_held_on m xs k
held_on m (object.TypeOperator n) k = m.names n.0 k
held_on m (object.Type t) k = tt
held_on m (object.Constant n) k = m.names n.0 k
held_on m (object.Variable n t) k = m.names n.0 k
held_on m (object.Term t) k = tt
held_on m (object.Theorem i) k = tt

-- an object that is held
list_held : (h : Holding) (n : ℕ) (xs : AList) → n ≤ length h.cells → IsListWithin n xs → IsListHeld (holding_list h xs) xs
list_held h n Empty l k = tt
list_held h n (CellOf c) l k = IsSet-set h.cells c.0 (omega arith)

pub object_held : (h : Holding) (m n : ℕ) (x : Object) → m ≤ length h.names → n ≤ length h.cells → IsWithin m n x → IsHeld (holding h x) x
object_held h m n (object.Number z) l k w = tt
object_held h m n (object.Name i) l k w = IsSet-set h.names i.0 (omega arith)
object_held h m n (object.List xs) l k w = list_held h n xs k w
object_held h m n (object.TypeOperator i) l k w = IsSet-set h.names i.0 (omega arith)
object_held h m n (object.Type t) l k w = tt
object_held h m n (object.Constant i) l k w = IsSet-set h.names i.0 (omega arith)
object_held h m n (object.Variable i t) l k w = IsSet-set h.names i.0 (omega arith)
object_held h m n (object.Term t) l k w = tt
object_held h m n (object.Theorem i) l k w = tt

-- the cells above were held before
list_above : (h : Holding) (n : ℕ) (xs : AList) → IsListWithin n xs → (j : ℕ) → n ≤ j → IsSet (holding_list h xs).cells j → IsSet h.cells j
list_above h n Empty w j l s = s
list_above h n (CellOf c) w j l s = IsSet-above h.cells c.0 j (omega arith) s

object_above : (h : Holding) (m n : ℕ) (x : Object) → IsWithin m n x → (j : ℕ) → n ≤ j → IsSet (holding h x).cells j → IsSet h.cells j
object_above h m n (object.Number z) w j l s = s
object_above h m n (object.Name i) w j l s = s
object_above h m n (object.List xs) w j l s = list_above h n xs w j l s
object_above h m n (object.TypeOperator i) w j l s = s
object_above h m n (object.Type t) w j l s = s
object_above h m n (object.Constant i) w j l s = s
object_above h m n (object.Variable i t) w j l s = s
object_above h m n (object.Term t) w j l s = s
object_above h m n (object.Theorem i) w j l s = s

-- no more is held than what holds the same objects
set_or : (flags : List Bool) (i j : ℕ) → IsSet (slice_set flags i true) j → (j ≡ i) ⊎ IsSet flags j
set_or [] i j s = inr s
set_or (b ∷ flags) zero zero s = inl refl
set_or (b ∷ flags) zero (suc j) s = inr s
set_or (b ∷ flags) (suc i) zero s = inr s
set_or (b ∷ flags) (suc i) (suc j) s = elim (set_or flags i j s) [ inl e ↦ inl (ap suc e) | inr t ↦ inr t ]

no_more_set : (flags more : List Bool) (i : ℕ) → IsSet more i → ((j : ℕ) → IsSet flags j → IsSet more j) → (j : ℕ) → IsSet (slice_set flags i true) j
    → IsSet more j
no_more_set flags more i h f j s = elim (set_or flags i j s) [ inl e ↦ subst (IsSet more) (sym e) h | inr t ↦ f j t ]

module _ (k : Holding) where
  no_more_name : (h : Holding) (n : ℕ) → IsSet k.names n → HoldsMore h k → HoldsMore (record { names = slice_set h.names n true; cells = h.cells }) k
  no_more_name h n s m = record {
    names = no_more_set h.names k.names n s m.names;
    cells = m.cells;
    name_count = m.name_count ∙ sym (length-set h.names n true);
    cell_count =
        m.cell_count;
  }

  no_more_list : (h : Holding) (xs : AList) → IsListHeld k xs → HoldsMore h k → HoldsMore (holding_list h xs) k
  no_more_list h Empty s m = m
  no_more_list h (CellOf c) s m = record {
    names = m.names;
    cells = no_more_set h.cells k.cells c.0 s m.cells;
    name_count = m.name_count;
    cell_count =
        m.cell_count ∙ sym (length-set h.cells c.0 true);
  }

  no_more_object : (h : Holding) (x : Object) → IsHeld k x → HoldsMore h k → HoldsMore (holding h x) k
  no_more_object h (object.Number z) s m = m
  no_more_object h (object.Name n) s m = no_more_name h n.0 s m
  no_more_object h (object.List xs) s m = no_more_list h xs s m
  no_more_object h (object.TypeOperator n) s m = no_more_name h n.0 s m
  no_more_object h (object.Type t) s m = m
  no_more_object h (object.Constant n) s m = no_more_name h n.0 s m
  no_more_object h (object.Variable n t) s m = no_more_name h n.0 s m
  no_more_object h (object.Term t) s m = m
  no_more_object h (object.Theorem i) s m = m

  pub no_more_parts : (cells : List Cell) → IsClosed k cells → (i : ℕ) (c : Cell) → slice_get cells i ≡ Some c → (h : Holding) → IsSet h.cells i → HoldsMore h k
      → HoldsMore (holding_parts h c) k
  no_more_parts cells closed i c e h s m =
      let held = closed i c (omega arith) e (m.cells i s) in
      no_more_list (holding h c.head) c.tail held.1 (no_more_object h c.head held.0 m)

-- the parts of a cell are held, one pass down
module _ (h : Holding) (cells : List Cell) (i : ℕ) (c : Cell) (e : slice_get cells i ≡ Some c) (b : AreBefore (length h.names) cells)
    (l : length h.cells ≡ length cells) where
  within : i < length h.cells
  within = let w = slice_get_within cells i c e in omega (arith, w, l)

  parts_held : IsHeld (holding_parts h c) c.head × IsListHeld (holding_parts h c) c.tail
  parts_held =
      let w = b i c e in
      let m = (more_object h c.head).cell_count in (
        held_on (more_list (holding h c.head) c.tail) c.head (object_held h (length h.names) i c.head (omega arith) (omega (arith, within)) w.0),
        list_held (holding h c.head) i c.tail (omega (arith, within, m)) w.1,
      )

  parts_above : (j : ℕ) → i ≤ j → IsSet (holding_parts h c).cells j → IsSet h.cells j
  parts_above j k s = let w = b i c e in object_above h (length h.names) i c.head w.0 j k (list_above (holding h c.head) i c.tail w.1 j k s)

  pub closed_more : IsClosedFrom (i + 1) h cells → IsClosedFrom i (holding_parts h c) cells
  closed_more closed j d k f s = by_order (cases_lt i j)
    where
      here : j ≡ i → IsHeld (holding_parts h c) d.head × IsListHeld (holding_parts h c) d.tail
      here q =
          let same : c ≡ d = same_Some _ _ (sym e ∙ ap (slice_get cells) (sym q) ∙ f) in
          subst (λ x. IsHeld (holding_parts h c) x.head × IsListHeld (holding_parts h c) x.tail) same parts_held

      by_order : (i < j) ⊎ (j ≤ i) → IsHeld (holding_parts h c) d.head × IsListHeld (holding_parts h c) d.tail
      by_order (inl lt) =
          let was = closed j d (omega arith) f (parts_above j k s) in
          (held_on (more_parts h c) d.head was.0, list_held_on (more_parts h c) d.tail was.1)
      by_order (inr ge) = here (omega arith)

-- a cell that isn't held holds nothing
pub closed_past : (h : Holding) (cells : List Cell) (i : ℕ) → slice_get h.cells i ≡ Some false → IsClosedFrom (i + 1) h cells → IsClosedFrom i h cells
closed_past h cells i e closed j d k f s = by_order (cases_lt i j)
  where
    by_order : (i < j) ⊎ (j ≤ i) → IsHeld h d.head × IsListHeld h d.tail
    by_order (inl lt) = closed j d (omega arith) f s
    by_order (inr ge) =
        let same : j ≡ i = omega arith in
        let set = subst (IsSet h.cells) same s in
        absurd (cc)

-- past the last cell there is none
pub closed_none : (h : Holding) (cells : List Cell) → IsClosedFrom (length cells) h cells
closed_none h cells i c l e s = let w = slice_get_within cells i c e in absurd (omega (arith, l, w))
