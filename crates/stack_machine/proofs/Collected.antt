-- What is kept once names and cells that nothing holds are given up.
use Rattle.std.proofs.Common.{◌≡◌, ℕ, ℤ, Bool, false, zero, suc, ◌+◌, refl, sym, ap, subst, ◌∙◌, arith, List, [], ◌∷◌, ◌++◌, map, length, length-append, Some}
use Rattle.std.specs.Prelude.{slice_get, reverse}
use mathlib.Core.List.{reverse_aux}
use Rattle.std.specs.List.{fold, items_where_true}
use Rattle.std.proofs.Math.Path.{ap₂}
use Rattle.std.proofs.lemmas.List.{length-replicate}
use Rattle.std.proofs.lemmas.Option.{none-some, same_Some}
use Rattle.hol_spec.specs.Names.{Name}
use Rattle.hol_term.specs.Tables.{Trees}
use Rattle.article_spec.specs.State as state
use Rattle.stack_machine.specs.Making.{Run}
use Rattle.stack_machine.specs.declared.object.List.{List as AList}
use Rattle.stack_machine.specs.declared.object.List.TheVariants.{Empty, Cell as CellOf}
use Rattle.stack_machine.specs.declared.object.Object.{Object}
use Rattle.stack_machine.specs.declared.object.Object.TheVariants as object
use Rattle.stack_machine.specs.declared.object.Cell.{Cell}
use Rattle.stack_machine.specs.Stored.{Stored, object_view, objects_view, cell_view, without_lists, stored, IsListKnown, IsKnown, AreKnown, AreCells}
use Rattle.stack_machine.specs.Shown.{AreEntriesKnown, article_state, dictionary_view, shown}
use Rattle.stack_machine.specs.declared.machine.Progress.{Progress}
use Rattle.std.specs.FinMap as entry
use Rattle.stack_machine.specs.Collecting.{Holding, Numbering, IsWithin, IsListWithin, AreHeld, AreBefore, HoldsMore, IsClosed, holding, nothing_held, numbered, numbered_cell, numbered_entries, numbering}
use Rattle.stack_machine.specs.Moves.{Moves}
use Rattle.stack_machine.proofs.Holdings.{more_object, more_objects, held_on, object_held}
use Rattle.stack_machine.proofs.Moved.{AreMoved, cells_moved, kept_item, object_moved}

-- what is known is among the names and the cells
list-within : (m : Stored) (xs : AList) → IsListKnown m xs → IsListWithin (length m.lists) xs
list-within m Empty k = tt
list-within m (CellOf c) k = k

object-within : (m : Stored) (x : Object) → IsKnown m x → IsWithin (length m.names) (length m.lists) x
object-within m (object.Number z) k = tt
object-within m (object.Name n) k = k
object-within m (object.List xs) k = list-within m xs k
object-within m (object.TypeOperator n) k = k
object-within m (object.Type t) k = tt
object-within m (object.Constant n) k = k
object-within m (object.Variable n t) k = k.0
object-within m (object.Term t) k = tt
object-within m (object.Theorem i) k = tt

-- the parts of cells come before them
before_from : (m : Stored) (cs : List Cell) → AreCells m cs → (i : ℕ) (c : Cell) → slice_get cs i ≡ Some c
    → IsWithin (length m.names) (length m.lists + i) c.head × IsListWithin (length m.lists + i) c.tail
before_from m [] k i c e = absurd (none-some c e)
before_from m (d ∷ cs) k zero c e =
    let z : length m.lists ≡ length m.lists + 0 = omega arith in
    subst (λ n. IsWithin (length m.names) n c.head × IsListWithin n c.tail) z
    (subst (λ x. IsWithin (length m.names) (length m.lists) x.head × IsListWithin (length m.lists) x.tail) (same_Some _ _ e)
    (object-within m d.head k.0, list-within m d.tail k.1))
before_from m (d ∷ cs) k (suc i) c e =
    let n = length-append m.lists (cell_view m d ∷ []) in
    let z : length (m.lists ++ cell_view m d ∷ []) + i ≡ length m.lists + suc i = omega (arith, n) in
    subst (λ n. IsWithin (length m.names) n c.head × IsListWithin n c.tail) z (before_from (record m { lists = m.lists ++ cell_view m d ∷ [] }) cs k.2 i c e)

pub AreBefore-cells : (t : Trees) (ns : List Name) (run : Run) (cs : List Cell) → AreCells (without_lists t ns run) cs → AreBefore (length ns) cs
AreBefore-cells t ns run cs k i c e =
    let z : 0 + i ≡ i = omega arith in
    subst (λ n. IsWithin (length ns) n c.head × IsListWithin n c.tail) z (before_from (without_lists t ns run) cs k i c e)

-- names and cells are given up: what is left is known, and what was held stays
module _ (t : Trees) (ns : List Name) (run : Run) (cs : List Cell) (h : Holding) (l : length h.cells ≡ length cs) (closed : IsClosed h cs)
    (k : AreCells (without_lists t ns run) cs) where
  moved : AreMoved h (numbering h) t run ns (items_where_true h.names ns) (kept_item h.names ns) [] [] cs
      (map (numbered_cell (numbering h)) (items_where_true h.cells cs))
  moved = cells_moved h (numbering h) t run ns (items_where_true h.names ns) (kept_item h.names ns) h.cells cs [] []
      record {
        long = l;
        flagged = λ j. let z : 0 + j ≡ j = omega arith in ap (slice_get h.cells) z;
        numbers = λ j. let z : 0 + j ≡ j =
            omega arith in ap (slice_get (numbering h).cells) z;
        held = λ j c e s. closed j c (omega arith) e s;
      }
      (λ i n s. absurd (omega arith)) k

  pub collected-AreCells : AreCells (without_lists t (items_where_true h.names ns) run) (map (numbered_cell (numbering h)) (items_where_true h.cells cs))
  collected-AreCells = moved.cells

  pub collected-Moves : (g : Holding) → HoldsMore g h
      → Moves g (numbering h) (stored t ns run cs)
      (stored t (items_where_true h.names ns) run (map (numbered_cell (numbering h)) (items_where_true h.cells cs)))
  collected-Moves g m = record {
    objects = λ x known held. object_moved h (numbering h) t run ns (items_where_true h.names ns) (kept_item h.names ns) _ _ moved.lists x known
        (held_on m x held);
    run = refl;
  }

-- what is held is held on
AreHeld-on : {a b : Holding} → HoldsMore a b → (xs : List Object) → AreHeld a xs → AreHeld b xs
AreHeld-on m [] s = tt
AreHeld-on m (x ∷ xs) s = (held_on m x s.0, AreHeld-on m xs s.1)

-- objects that are held one after another
AreHeld-fold : (m : Stored) (h : Holding) (xs : List Object) → length h.names ≡ length m.names → length h.cells ≡ length m.lists → AreKnown m xs
    → AreHeld (fold holding h xs) xs
AreHeld-fold m h [] n c k = tt
AreHeld-fold m h (x ∷ xs) n c k =
    let more = more_object h x in
    let first = object_held h (length m.names) (length m.lists) x (omega arith) (omega arith) (object-within m x k.0) in
    (held_on (more_objects (holding h x) xs) x first, AreHeld-fold m (holding h x) xs (more.name_count ∙ n) (more.cell_count ∙ c) k.1)

-- a list that is turned round
AreHeld-onto : (h : Holding) (xs ys : List Object) → AreHeld h (reverse_aux xs ys) → AreHeld h xs × AreHeld h ys
AreHeld-onto h [] ys k = (tt, k)
AreHeld-onto h (x ∷ xs) ys k = let r = AreHeld-onto h xs (x ∷ ys) k in ((r.1.0, r.0), r.1.1)

AreKnown-onto : (m : Stored) (xs ys : List Object) → AreKnown m xs → AreKnown m ys → AreKnown m (reverse_aux xs ys)
AreKnown-onto m [] ys h k = k
AreKnown-onto m (x ∷ xs) ys h k = AreKnown-onto m xs (x ∷ ys) h.1 (h.0, k)

-- the objects of entries
AreKnown-entries : (m : Stored) (es : List (ℤ × Object)) → AreEntriesKnown m es → AreKnown m (map (λ e. e.1) es)
AreKnown-entries m [] k = tt
AreKnown-entries m (e ∷ es) k = (k.0, AreKnown-entries m es k.1)

-- the objects of a stack and of a dictionary are held, and there is a flag for each name and each cell
pub record AreRootsHeld (m : Stored) (h : Holding) (xs : List Object) (es : List (ℤ × Object)) : Type 0 where
  pub stack : AreHeld h xs
  pub entries : AreHeld h (map (λ e. e.1) es)
  pub name_count : length h.names ≡ length m.names
  pub cell_count : length h.cells ≡ length m.lists

roots_fold : (m : Stored) (g : Holding) (xs : List Object) (es : List (ℤ × Object)) → length g.names ≡ length m.names → length g.cells ≡ length m.lists
    → AreKnown m xs → AreEntriesKnown m es
    → AreRootsHeld m (fold holding (fold holding g (reverse xs)) (map (λ e. e.1) es)) xs es
roots_fold m g xs es n c k l =
    let more = more_objects g (reverse xs) in
    let rest = more_objects (fold holding g (reverse xs)) (map (λ e. e.1) es) in
    let stack = AreHeld-fold m g (reverse xs) n c (AreKnown-onto m xs [] k tt) in
    record {
      stack = (AreHeld-onto _ xs [] (AreHeld-on rest (reverse xs) stack)).0;
      entries = AreHeld-fold m (fold holding g (reverse xs)) (map (λ e. e.1) es) (more.name_count ∙ n) (more.cell_count ∙ c) (AreKnown-entries m es l);
      name_count = rest.name_count ∙ more.name_count ∙ n;
      cell_count = rest.cell_count ∙ more.cell_count ∙ c;
    }

pub roots_held : (m : Stored) (g f h : Holding) (xs : List Object) (es : List (ℤ × Object)) → g ≡ nothing_held (length m.names) (length m.lists) → f
    ≡ fold holding g (reverse xs) → h ≡ fold holding f (map (λ e. e.1) es)
    → AreKnown m xs → AreEntriesKnown m es → AreRootsHeld m h xs es
roots_held m g f h xs es e i j k l =
    subst (λ w. AreRootsHeld m w xs es) (sym (j ∙ ap (λ w. fold holding w (map (λ e. e.1) es)) i))
    (roots_fold m g xs es (ap (λ w. length w.names) e ∙ length-replicate (length m.names) false)
    (ap (λ w. length w.cells) e ∙ length-replicate (length m.lists) false) k l)

-- the entries that these stand for
abbrev pairs : Stored → List (ℤ × Object) → List (ℤ × state.Object)
pairs m es = map (λ e. (e.0, object_view m e.1)) es

-- a stack and a dictionary that are held stay
module _ {h : Holding} {r : Numbering} {a b : Stored} (m : Moves h r a b) where
  pub stack_known : (xs : List Object) → AreKnown a xs → AreHeld h xs → AreKnown b (map (numbered r) xs)
  stack_known [] k s = tt
  stack_known (x ∷ xs) k s = ((m.objects x k.0 s.0).known, stack_known xs k.1 s.1)

  pub stack_same : (xs : List Object) → AreKnown a xs → AreHeld h xs → objects_view b (map (numbered r) xs) ≡ objects_view a xs
  stack_same [] k s = refl
  stack_same (x ∷ xs) k s = ap₂ (λ y ys. y ∷ ys) (m.objects x k.0 s.0).same (stack_same xs k.1 s.1)

  pub entries_known : (es : List (ℤ × Object)) → AreEntriesKnown a es → AreHeld h (map (λ e. e.1) es) → AreEntriesKnown b (numbered_entries r es)
  entries_known [] k s = tt
  entries_known (e ∷ es) k s = ((m.objects e.1 k.0 s.0).known, entries_known es k.1 s.1)

  pairs_same : (es : List (ℤ × Object)) → AreEntriesKnown a es → AreHeld h (map (λ e. e.1) es) → pairs b (numbered_entries r es) ≡ pairs a es
  pairs_same [] k s = refl
  pairs_same (e ∷ es) k s = ap₂ (λ x xs. (e.0, x) ∷ xs) (m.objects e.1 k.0 s.0).same (pairs_same es k.1 s.1)

  entries_same : (es : List (ℤ × Object)) → AreEntriesKnown a es → AreHeld h (map (λ e. e.1) es) → dictionary_view b (numbered_entries r es)
      ≡ dictionary_view a es
  entries_same es k s = ap entry.from_entries (pairs_same es k s)

  pub shown_same : (xs : List Object) (es : List (ℤ × Object)) (p : Progress) → AreKnown a xs → AreHeld h xs → AreEntriesKnown a es
      → AreHeld h (map (λ e. e.1) es)
      → shown b (map (numbered r) xs) (article_state b (numbered_entries r es) p) ≡ shown a xs (article_state a es p)
  shown_same xs es p k s l t = rw (stack_same xs k s, entries_same es l t, m.run) refl

-- a stack is rewritten from its bottom
pub map-reverse_aux : {A B : Type 0} (f : A → B) (xs ys : List A) → map f (reverse_aux xs ys) ≡ reverse_aux (map f xs) (map f ys)
map-reverse_aux f [] ys = refl
map-reverse_aux f (x ∷ xs) ys = map-reverse_aux f xs (x ∷ ys)

-- the kept cells by the new numbers
pub kept_cells : (h : Holding) (r : Numbering) (flags : List Bool) (cs ds es : List Cell) → flags ≡ h.cells → ds ≡ items_where_true flags cs → r ≡ numbering h
    → es ≡ map (numbered_cell r) ds → es ≡ map (numbered_cell (numbering h)) (items_where_true h.cells cs)
kept_cells h r flags cs ds es f d n e = e ∙ ap₂ (λ q us. map (numbered_cell q) us) n (d ∙ ap (λ fs. items_where_true fs cs) f)
