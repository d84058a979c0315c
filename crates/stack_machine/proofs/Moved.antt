-- Names and cells that move down where others are given up.
use Rattle.std.proofs.Common.{◌≡◌, ℕ, zero, suc, ◌+◌, ◌<◌, ◌≤◌, refl, sym, ap, ◌∙◌, arith, Bool, true, false, List, [], ◌∷◌, ◌++◌, map, length, length-append, Some, ◌⊎◌, inl, inr}
use Rattle.std.specs.Prelude.{slice_get, unwrap_or}
use Rattle.std.specs.List.{items_where_true}
use Rattle.std.proofs.Math.Path.{ap₂}
use Rattle.std.proofs.lemmas.Bool.{cases_lt}
use Rattle.std.proofs.lemmas.Option.{none-some, slice_get_within}
use Rattle.hol_spec.specs.Names.{Name}
use Rattle.hol_term.specs.Tables.{Trees, type_at}
use Rattle.article_spec.specs.State as state
use Rattle.stack_machine.specs.Making.{Run}
use Rattle.stack_machine.specs.declared.object.List.{List as AList}
use Rattle.stack_machine.specs.declared.object.List.TheVariants.{Empty, Cell as CellOf}
use Rattle.stack_machine.specs.declared.object.Object.{Object}
use Rattle.stack_machine.specs.declared.object.Object.TheVariants as object
use Rattle.stack_machine.specs.declared.object.Cell.{Cell}
use Rattle.stack_machine.specs.Stored.{Stored, list_view, cell_view, lists_from, IsListKnown, IsKnown, AreCells}
use Rattle.stack_machine.specs.Collecting.{Holding, Numbering, IsSet, IsHeld, IsListHeld, new_number, new_numbers, numbered_list, numbered_cell}
use Rattle.stack_machine.specs.Moves.{IsMoved}

-- an item of a list
item : {A : Type 0} (xs : List A) (i : ℕ) → i < length xs → (x : A) × (slice_get xs i ≡ Some x)
item [] i l = absurd (omega arith)
item (x ∷ xs) zero l = (x, refl)
item (x ∷ xs) (suc i) l = item xs i (omega arith)

within : {A : Type 0} (xs ys : List A) (i j : ℕ) → slice_get ys j ≡ slice_get xs i → i < length xs → j < length ys
within xs ys i j e l = let x = item xs i l in slice_get_within ys j x.0 (e ∙ x.1)

item-append : {A : Type 0} (xs more : List A) (i : ℕ) → i < length xs → slice_get (xs ++ more) i ≡ slice_get xs i
item-append [] more i l = absurd (omega arith)
item-append (x ∷ xs) more zero l = refl
item-append (x ∷ xs) more (suc i) l = item-append xs more i (omega arith)

item-last : {A : Type 0} (xs : List A) (x : A) → slice_get (xs ++ x ∷ []) (length xs) ≡ Some x
item-last [] x = refl
item-last (y ∷ xs) x = item-last xs x

-- what has a set flag is found by its new number
record IsPlaced {A : Type 0} (n : ℕ) (flags : List Bool) (xs : List A) (i : ℕ) : Type 0 where
  place : ℕ
  number : slice_get (new_numbers n flags) i ≡ Some (n + place)
  same : slice_get (items_where_true flags xs) place ≡ slice_get xs i

placed : {A : Type 0} (n : ℕ) (flags : List Bool) (xs : List A) (i : ℕ) → i < length xs → IsSet flags i → IsPlaced n flags xs i
placed n flags [] i l s = absurd (omega arith)
placed n [] (x ∷ xs) i l s = absurd (none-some true s)
placed n (true ∷ flags) (x ∷ xs) zero l s = record { place = 0; number = ap Some (omega arith); same = refl }
placed n (false ∷ flags) (x ∷ xs) zero l s = absurd (cc)
placed n (true ∷ flags) (x ∷ xs) (suc i) l s =
    let p = placed (n + 1) flags xs i (omega arith) s in
    record { place = suc p.place; number = p.number ∙ ap Some (omega arith); same = p.same }
placed n (false ∷ flags) (x ∷ xs) (suc i) l s =
    let p = placed n flags xs i (omega arith) s in
    record { place = p.place; number = p.number; same = p.same }

pub kept_item : {A : Type 0} (flags : List Bool) (xs : List A) (i : ℕ) → i < length xs → IsSet flags i
    → slice_get (items_where_true flags xs) (new_number (new_numbers 0 flags) i) ≡ slice_get xs i
kept_item flags xs i l s =
    let p = placed 0 flags xs i l s in
    let e : 0 + p.place ≡ p.place = omega arith in
    ap (λ o. slice_get (items_where_true flags xs) (unwrap_or o i)) (p.number ∙ ap Some e) ∙ p.same

module _ (h : Holding) (r : Numbering) (t : Trees) (run : Run) (an bn : List Name)
    (names : (i : ℕ) → i < length an → IsSet h.names i → slice_get bn (new_number r.names i) ≡ slice_get an i) where
  abbrev pub before : List state.Objects → Stored
  before ls = record { trees = t; names = an; lists = ls; run = run }

  abbrev pub after : List state.Objects → Stored
  after ls = record { trees = t; names = bn; lists = ls; run = run }

  -- the held cells are found by their new numbers
  abbrev pub Move : List state.Objects → List state.Objects → Type 0
  Move al bl = (i : ℕ) → i < length al → IsSet h.cells i → slice_get bl (new_number r.cells i) ≡ slice_get al i

  -- one more, and one that is given up
  move_more : (al bl : List state.Objects) (x y : state.Objects) → x ≡ y → new_number r.cells (length al) ≡ length bl → Move al bl
      → Move (al ++ x ∷ []) (bl ++ y ∷ [])
  move_more al bl x y e n m i l s = by_order (cases_lt i (length al))
    where
      here : i ≡ length al → slice_get (bl ++ y ∷ []) (new_number r.cells i) ≡ slice_get (al ++ x ∷ []) i
      here q =
          ap (λ j. slice_get (bl ++ y ∷ []) (new_number r.cells j)) q ∙ ap (slice_get (bl ++ y ∷ [])) n ∙ item-last bl y ∙ ap Some (sym e)
          ∙ sym (item-last al x) ∙ ap (slice_get (al ++ x ∷ [])) (sym q)

      by_order : (i < length al) ⊎ (length al ≤ i) → slice_get (bl ++ y ∷ []) (new_number r.cells i) ≡ slice_get (al ++ x ∷ []) i
      by_order (inl lt) =
          let was = m i lt s in
          item-append bl (y ∷ []) (new_number r.cells i) (within al bl i (new_number r.cells i) was lt) ∙ was ∙ sym (item-append al (x ∷ []) i lt)
      by_order (inr ge) = here (let n = length-append al (x ∷ []) in omega (arith, n))

  move_less : (al bl : List state.Objects) (x : state.Objects) → slice_get h.cells (length al) ≡ Some false → Move al bl → Move (al ++ x ∷ []) bl
  move_less al bl x f m i l s = by_order (cases_lt i (length al))
    where
      here : i ≡ length al → ⊥
      here q = let e = ap (slice_get h.cells) (sym q) ∙ s in absurd (cc (e, f))

      by_order : (i < length al) ⊎ (length al ≤ i) → slice_get bl (new_number r.cells i) ≡ slice_get (al ++ x ∷ []) i
      by_order (inl lt) = m i lt s ∙ sym (item-append al (x ∷ []) i lt)
      by_order (inr ge) = absurd (here (let n = length-append al (x ∷ []) in omega (arith, n)))

  -- a list and an object by the new numbers
  list_known : (al bl : List state.Objects) → Move al bl → (xs : AList) → IsListKnown (before al) xs → IsListHeld h xs
      → IsListKnown (after bl) (numbered_list r xs)
  list_known al bl m Empty k s = tt
  list_known al bl m (CellOf c) k s = within al bl c.0 (new_number r.cells c.0) (m c.0 k s) k

  list_same : (al bl : List state.Objects) → Move al bl → (xs : AList) → IsListKnown (before al) xs → IsListHeld h xs
      → list_view (after bl) (numbered_list r xs) ≡ list_view (before al) xs
  list_same al bl m Empty k s = refl
  list_same al bl m (CellOf c) k s = ap (λ o. unwrap_or o state.Objects.none) (m c.0 k s)

  name_known : (n : ℕ) → n < length an → IsSet h.names n → new_number r.names n < length bn
  name_known n k s = within an bn n (new_number r.names n) (names n k s) k

  name_same : (n : ℕ) → n < length an → IsSet h.names n → unwrap_or (slice_get bn (new_number r.names n)) [] ≡ unwrap_or (slice_get an n) []
  name_same n k s = ap (λ o. unwrap_or o []) (names n k s)

  pub object_moved : (al bl : List state.Objects) → Move al bl → (x : Object) → IsKnown (before al) x → IsHeld h x → IsMoved r (before al) (after bl) x
  object_moved al bl m (object.Number z) k s = record { known = tt; same = refl }
  object_moved al bl m (object.Name n) k s = record { known = name_known n.0 k s; same = ap state.Object.name (name_same n.0 k s) }
  object_moved al bl m (object.List xs) k s = record { known = list_known al bl m xs k s; same = ap state.Object.list (list_same al bl m xs k s) }
  object_moved al bl m (object.TypeOperator n) k s = record { known = name_known n.0 k s; same = ap state.Object.type_operator (name_same n.0 k s) }
  object_moved al bl m (object.Type u) k s = record { known = k; same = refl }
  object_moved al bl m (object.Constant n) k s = record { known = name_known n.0 k s; same = ap state.Object.constant (name_same n.0 k s) }
  object_moved al bl m (object.Variable n u) k s =
      record { known = (name_known n.0 k.0 s, k.1); same = ap (λ w. state.Object.variable (w, type_at t u.0)) (name_same n.0 k.0 s) }
  object_moved al bl m (object.Term u) k s = record { known = record { known = k.known; typed = k.typed }; same = refl }
  object_moved al bl m (object.Theorem i) k s = record { known = k; same = refl }

  -- cells, of which some are given up, one after another
  pub record AreMoved (al bl : List state.Objects) (cs ds : List Cell) : Type 0 where
    pub lists : Move (lists_from (before al) cs) (lists_from (after bl) ds)
    pub cells : AreCells (after bl) ds

  -- what is left to do, from some cell on
  pub record IsLeft (flags : List Bool) (cs : List Cell) (al bl : List state.Objects) : Type 0 where
    pub long : length flags ≡ length cs
    pub flagged : (j : ℕ) → slice_get h.cells (length al + j) ≡ slice_get flags j
    pub numbers : (j : ℕ) → slice_get r.cells (length al + j) ≡ slice_get (new_numbers (length bl) flags) j
    pub held : (j : ℕ) (c : Cell) → slice_get cs j ≡ Some c → IsSet flags j → IsHeld h c.head × IsListHeld h c.tail

  -- one cell less is left
  next_flagged : (b : Bool) (flags : List Bool) (al : List state.Objects) (x : state.Objects)
      → ((j : ℕ) → slice_get h.cells (length al + j) ≡ slice_get (b ∷ flags) j) → (j : ℕ) → slice_get h.cells (length (al ++ x ∷ []) + j) ≡ slice_get flags j
  next_flagged b flags al x f j = let n = length-append al (x ∷ []) in let e : length (al ++ x ∷ []) + j ≡ length al + suc j =
      omega (arith, n) in ap (slice_get h.cells) e ∙ f (suc j)

  next_numbers : (al : List state.Objects) (x : state.Objects) (n k l : ℕ) (flags : List Bool) → l ≡ k
      → ((j : ℕ) → slice_get r.cells (length al + j) ≡ slice_get (n ∷ new_numbers k flags) j) → (j : ℕ) → slice_get r.cells (length (al ++ x ∷ []) + j)
      ≡ slice_get (new_numbers l flags) j
  next_numbers al x n k l flags q f j =
      let m = length-append al (x ∷ []) in
      let e : length (al ++ x ∷ []) + j ≡ length al + suc j = omega (arith, m) in
      ap (slice_get r.cells) e ∙ f (suc j) ∙ ap (λ i. slice_get (new_numbers i flags) j) (sym q)

  left_kept : (flags : List Bool) (c : Cell) (cs : List Cell) (al bl : List state.Objects) (x y : state.Objects) → IsLeft (true ∷ flags) (c ∷ cs) al bl
      → IsLeft flags cs (al ++ x ∷ []) (bl ++ y ∷ [])
  left_kept flags c cs al bl x y g = record {
    long = let l = g.long in omega (arith, l);
    flagged = next_flagged true flags al x g.flagged;
    numbers = next_numbers al x (length bl) (length bl + 1) (length (bl ++ y ∷ [])) flags (length-append bl (y ∷ [])) g.numbers;
    held = λ j d e s. g.held (suc j) d e s;
  }

  left_given : (flags : List Bool) (c : Cell) (cs : List Cell) (al bl : List state.Objects) (x : state.Objects) → IsLeft (false ∷ flags) (c ∷ cs) al bl
      → IsLeft flags cs (al ++ x ∷ []) bl
  left_given flags c cs al bl x g = record {
    long = let l = g.long in omega (arith, l);
    flagged = next_flagged false flags al x g.flagged;
    numbers = next_numbers al x (length bl) (length bl) (length bl) flags refl g.numbers;
    held = λ j d e s. g.held (suc j) d e s;
  }

  -- the next number is the new one of a cell that is kept
  next_number : (al bl : List state.Objects) (rest : List ℕ) → ((j : ℕ) → slice_get r.cells (length al + j) ≡ slice_get (length bl ∷ rest) j)
      → new_number r.cells (length al) ≡ length bl
  next_number al bl rest f =
      let e : length al ≡ length al + 0 = omega arith in
      ap (λ o. unwrap_or o (length al)) (ap (slice_get r.cells) e ∙ f 0)

  pub cells_moved : (flags : List Bool) (cs : List Cell) (al bl : List state.Objects) → IsLeft flags cs al bl → Move al bl → AreCells (before al) cs
      → AreMoved al bl cs (map (numbered_cell r) (items_where_true flags cs))
  cells_moved [] [] al bl g m k = record { lists = m; cells = tt }
  cells_moved (b ∷ flags) [] al bl g m k = absurd (let l = g.long in omega (arith, l))
  cells_moved [] (c ∷ cs) al bl g m k = absurd (let l = g.long in omega (arith, l))
  cells_moved (true ∷ flags) (c ∷ cs) al bl g m k =
      let s = g.held 0 c refl refl in
      let head = object_moved al bl m c.head k.0 s.0 in
      let tail = list_same al bl m c.tail k.1 s.1 in
      let same : cell_view (before al) c ≡ cell_view (after bl) (numbered_cell r c) = sym (ap₂ state.Objects.more head.same tail) in
      let rest = cells_moved flags cs (al ++ cell_view (before al) c ∷ []) (bl ++ cell_view (after bl) (numbered_cell r c) ∷ [])
      (left_kept flags c cs al bl _ _ g) (move_more al bl _ _ same (next_number al bl _ g.numbers) m) k.2 in
      record { lists = rest.lists; cells = (head.known, list_known al bl m c.tail k.1 s.1, rest.cells) }
  cells_moved (false ∷ flags) (c ∷ cs) al bl g m k =
      let e : length al ≡ length al + 0 = omega arith in
      let rest = cells_moved flags cs (al ++ cell_view (before al) c ∷ []) bl (left_given flags c cs al bl _ g)
      (move_less al bl _ (ap (slice_get h.cells) e ∙ g.flagged 0) m) k.2 in
      record { lists = rest.lists; cells = rest.cells }
