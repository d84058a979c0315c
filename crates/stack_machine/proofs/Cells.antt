-- Cells of lists that come to what is kept, and those that are found there.
use Rattle.std.proofs.Common.{◌≡◌, ℕ, zero, suc, ◌+◌, ◌≤◌, refl, sym, ap, subst, ◌∙◌, arith, List, [], ◌∷◌, ◌++◌, length, length-append, Some}
use Rattle.std.specs.Prelude.{slice_get, unwrap_or}
use Rattle.std.proofs.lemmas.Option.{slice_get_within, same_Some}
use Rattle.std.proofs.lemmas.List.{append-nil}
use Rattle.hol_spec.specs.Names.{Name}
use Rattle.hol_term.specs.Tables.{Trees}
use Rattle.hol_term.specs.Tables as table
use Rattle.article_spec.specs.State as state
use Rattle.stack_machine.specs.Making.{Run, step_count}
use Rattle.stack_machine.specs.declared.object.List.{List as AList}
use Rattle.stack_machine.specs.declared.object.List.TheVariants.{Empty, Cell as CellOf}
use Rattle.stack_machine.specs.declared.object.Cell.{Cell}
use Rattle.stack_machine.specs.Stored.{Stored, list_at, list_view, cell_view, lists_from, without_lists, stored, rank, IsListKnown, IsKnown, AreCells, IsFront, Grows}
use Rattle.stack_machine.specs.StoredLaws.{IsFront-refl, IsFront-trans, Grows-refl, cells-Grows, IsKnown-Grows, IsListKnown-Grows, at-front, lists_from-Grows, AreCells-Grows, lists_from-push, AreCells-push, length-lists_from, lists_from-front}

-- the last item of a list
pub at-last : {A : Type 0} (d : A) (xs : List A) (x : A) → unwrap_or (slice_get (xs ++ x ∷ []) (length xs)) d ≡ x
at-last d [] x = refl
at-last d (y ∷ xs) x = at-last d xs x

-- types, terms, names and what was made come, and the cells stay
module _ (t u : Trees) (ns ms : List Name) (ss rs : Run) (cs : List Cell) (k : table.Keeps t u) (f : IsFront ns ms) (l : step_count ss ≤ step_count rs) where
  base : Grows (without_lists t ns ss) (without_lists u ms rs)
  base = record { trees = k; names = f; lists = IsFront-refl []; steps = l }

  pub stored-Grows : AreCells (without_lists t ns ss) cs → Grows (stored t ns ss cs) (stored u ms rs cs)
  stored-Grows h = record { trees = k; names = f; lists = record { more = []; is = sym (lists_from-Grows _ _ base refl cs h) ∙ sym (append-nil _) }; steps = l }

  pub stored-AreCells : AreCells (without_lists t ns ss) cs → AreCells (without_lists u ms rs) cs
  stored-AreCells h = AreCells-Grows _ _ base refl cs h

-- a cell comes
module _ (t : Trees) (ns : List Name) (ss : Run) (cs : List Cell) (c : Cell) where
  pub pushed-Grows : Grows (stored t ns ss cs) (stored t ns ss (cs ++ c ∷ []))
  pushed-Grows = record {
    trees = (Grows-refl (stored t ns ss cs)).trees;
    names = IsFront-refl ns;
    lists =
        record { more = cell_view (stored t ns ss cs) c ∷ []; is = lists_from-push (without_lists t ns ss) cs c };
    steps = omega arith;
  }

  pub pushed-AreCells : AreCells (without_lists t ns ss) cs → IsKnown (stored t ns ss cs) c.head → IsListKnown (stored t ns ss cs) c.tail
      → AreCells (without_lists t ns ss) (cs ++ c ∷ [])
  pushed-AreCells k h l = AreCells-push (without_lists t ns ss) cs c k h l

  count : length (lists_from (without_lists t ns ss) cs) ≡ length cs
  count = let e = length-lists_from (without_lists t ns ss) cs in omega (arith, e)

  pub pushed-known : IsListKnown (stored t ns ss (cs ++ c ∷ [])) (CellOf (record { 0 = length cs }))
  pushed-known = let e = length-lists_from (without_lists t ns ss) (cs ++ c ∷ []) in let f = length-append cs (c ∷ []) in omega (arith, e, f)

  pub pushed-list : list_view (stored t ns ss (cs ++ c ∷ [])) (CellOf (record { 0 = length cs })) ≡ cell_view (stored t ns ss cs) c
  pushed-list =
      ap (λ ls. unwrap_or (slice_get ls (length cs)) state.Objects.none) (lists_from-push (without_lists t ns ss) cs c)
      ∙ ap (λ n. unwrap_or (slice_get (lists_from (without_lists t ns ss) cs ++ cell_view (stored t ns ss cs) c ∷ []) n) state.Objects.none) (sym count)
      ∙ at-last state.Objects.none (lists_from (without_lists t ns ss) cs) (cell_view (stored t ns ss cs) c)

-- a cell that is found
pub record CellAt (m : Stored) (c : Cell) (i : ℕ) : Type 0 where
  pub head : IsKnown m c.head
  pub tail : IsListKnown m c.tail
  pub lower : rank c.tail ≤ i
  pub is : list_at m i ≡ cell_view m c

rank-known : (m : Stored) (xs : AList) → IsListKnown m xs → rank xs ≤ length m.lists
rank-known m Empty k = omega arith
rank-known m (CellOf c) k = omega (arith, k)

abbrev with_one : Stored → Cell → Stored
with_one a d = record a { lists = a.lists ++ cell_view a d ∷ [] }

all-Grow : (a : Stored) (d : Cell) (cs : List Cell) → Grows a (record a { lists = lists_from (with_one a d) cs })
all-Grow a d cs = record {
  trees = (Grows-refl a).trees;
  names = IsFront-refl a.names;
  lists =
      IsFront-trans (record { more = cell_view a d ∷ []; is = refl }) (lists_from-front (with_one a d) cs);
  steps = omega arith;
}

first_cell : (a : Stored) (d : Cell) (cs : List Cell) → IsKnown a d.head → IsListKnown a d.tail
    → CellAt (record a { lists = lists_from (with_one a d) cs }) d (length a.lists + 0)
first_cell a d cs h t =
    let g = all-Grow a d cs in
    let z : length a.lists + 0 ≡ length a.lists = omega arith in
    record {
      head = IsKnown-Grows g d.head h;
      tail = IsListKnown-Grows g d.tail t;
      lower = let r = rank-known a d.tail t in omega (arith, r);
      is = ap (λ n. unwrap_or (slice_get (lists_from (with_one a d) cs) n) state.Objects.none) z
          ∙ sym (at-front state.Objects.none (a.lists ++ cell_view a d ∷ []) (lists_from (with_one a d) cs) (lists_from-front (with_one a d) cs)
          (length a.lists) (let l = length-append a.lists (cell_view a d ∷ []) in omega (arith, l)))
          ∙ at-last state.Objects.none a.lists (cell_view a d) ∙ cells-Grows g d h t;
    }

pub cell_at : (a : Stored) (cs : List Cell) (i : ℕ) (c : Cell) → AreCells a cs → slice_get cs i ≡ Some c
    → CellAt (record a { lists = lists_from a cs }) c (length a.lists + i)
cell_at a [] i c k e = absurd (let h = slice_get_within [] i c e in omega arith)
cell_at a (d ∷ cs) zero c k e = subst (λ w. CellAt (record a { lists = lists_from (with_one a d) cs }) w (length a.lists + 0)) (same_Some _ _ e)
    (first_cell a d cs k.0 k.1)
cell_at a (d ∷ cs) (suc i) c k e =
    let l = length-append a.lists (cell_view a d ∷ []) in
    let n : length (a.lists ++ cell_view a d ∷ []) + i ≡ length a.lists + suc i = omega (arith, l) in
    subst (λ j. CellAt (record a { lists = lists_from (with_one a d) cs }) c j) n (cell_at (with_one a d) cs i c k.2 e)

-- the same of what is kept
pub cell_at-stored : (t : Trees) (ns : List Name) (ss : Run) (cs : List Cell) (i : ℕ) (c : Cell) → AreCells (without_lists t ns ss) cs → slice_get cs i ≡ Some c
    → CellAt (stored t ns ss cs) c i
cell_at-stored t ns ss cs i c k e = let z : 0 + i ≡ i =
    omega arith in subst (λ j. CellAt (stored t ns ss cs) c j) z (cell_at (without_lists t ns ss) cs i c k e)

pub length-stored : (t : Trees) (ns : List Name) (ss : Run) (cs : List Cell) → length (stored t ns ss cs).lists ≡ length cs
length-stored t ns ss cs = let e = length-lists_from (without_lists t ns ss) cs in omega (arith, e)
