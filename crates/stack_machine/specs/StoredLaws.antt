-- What follows where more is kept.
use Rattle.std.proofs.Common.{◌≡◌, ℕ, ◌+◌, zero, suc, ◌<◌, refl, sym, ap, subst, ◌∙◌, arith, List, [], ◌∷◌, ◌++◌, length, append_assoc, length-append}
use Rattle.std.specs.Prelude.{slice_get, unwrap_or}
use Rattle.std.proofs.lemmas.List.{append-nil}
use Rattle.std.proofs.Math.Path.{ap₂}
use Rattle.hol_spec.specs.Terms as hol
use Rattle.hol_type.specs.TableLaws as type_law
use Rattle.hol_term.specs.TableLaws as table_law
use Rattle.article_spec.specs.State as state
use Rattle.stack_machine.specs.declared.object.List.{List as AList}
use Rattle.stack_machine.specs.declared.object.List.TheVariants.{Empty, Cell as CellOf}
use Rattle.stack_machine.specs.declared.object.Object.{Object}
use Rattle.stack_machine.specs.declared.object.Object.TheVariants as object
use Rattle.stack_machine.specs.declared.object.Cell.{Cell}
use Rattle.stack_machine.specs.Stored.{Stored, name_at, list_view, object_view, cell_view, lists_from, IsListKnown, IsTerm, IsKnown, AreKnown, AreCells, IsFront, Grows}

pub IsFront-refl : {A : Type 0} (xs : List A) → IsFront xs xs
IsFront-refl xs = record { more = []; is = sym (append-nil xs) }

pub IsFront-trans : {A : Type 0} {xs ys zs : List A} → IsFront xs ys → IsFront ys zs → IsFront xs zs
IsFront-trans {xs = xs} h k = record { more = h.more ++ k.more; is = k.is ∙ ap (λ us. us ++ k.more) h.is ∙ append_assoc xs h.more k.more }

longer : {A : Type 0} {xs ys : List A} → IsFront xs ys → (i : ℕ) → i < length xs → i < length ys
longer {xs = xs} h i l = let e = ap length h.is ∙ length-append xs h.more in omega (arith, e, l)

at-append : {A : Type 0} (d : A) (xs more : List A) (i : ℕ) → i < length xs → unwrap_or (slice_get xs i) d ≡ unwrap_or (slice_get (xs ++ more) i) d
at-append d [] more i l = absurd (omega arith)
at-append d (x ∷ xs) more zero l = refl
at-append d (x ∷ xs) more (suc i) l = at-append d xs more i (omega arith)

-- what is at a number stays there
pub at-front : {A : Type 0} (d : A) (xs ys : List A) → IsFront xs ys → (i : ℕ) → i < length xs → unwrap_or (slice_get xs i) d ≡ unwrap_or (slice_get ys i) d
at-front d xs ys h i l = rw h.is (at-append d xs h.more i l)

pub Grows-refl : (a : Stored) → Grows a a
Grows-refl a = record { trees = table_law.Keeps-refl a.trees; names = IsFront-refl a.names; lists = IsFront-refl a.lists; steps = omega arith }

pub Grows-trans : {a b c : Stored} → Grows a b → Grows b c → Grows a c
Grows-trans h k = record {
  trees = table_law.Keeps-trans h.trees k.trees;
  names = IsFront-trans h.names k.names;
  lists = IsFront-trans h.lists k.lists;
  steps =
      omega (arith, h.steps, k.steps);
}

-- an object stays
pub list_view-Grows : {a b : Stored} → Grows a b → (xs : AList) → IsListKnown a xs → list_view a xs ≡ list_view b xs
list_view-Grows h Empty k = refl
list_view-Grows {a = a} {b = b} h (CellOf c) k = at-front state.Objects.none a.lists b.lists h.lists c.0 k

pub name_at-Grows : {a b : Stored} → Grows a b → (n : ℕ) → n < length a.names → name_at a n ≡ name_at b n
name_at-Grows {a = a} {b = b} h n k = at-front [] a.names b.names h.names n k

pub object_view-Grows : {a b : Stored} → Grows a b → (x : Object) → IsKnown a x → object_view a x ≡ object_view b x
object_view-Grows h (object.Number z) k = refl
object_view-Grows h (object.Name n) k = ap state.Object.name (name_at-Grows h n.0 k)
object_view-Grows h (object.List xs) k = ap state.Object.list (list_view-Grows h xs k)
object_view-Grows h (object.TypeOperator n) k = ap state.Object.type_operator (name_at-Grows h n.0 k)
object_view-Grows h (object.Type t) k = ap state.Object.type (type_law.tree_at-Stays h.trees.types.stays t.0 k)
object_view-Grows h (object.Constant n) k = ap state.Object.constant (name_at-Grows h n.0 k)
object_view-Grows h (object.Variable n t) k = ap state.Object.variable
    (ap₂ (λ m a. (m, a)) (name_at-Grows h n.0 k.0) (type_law.tree_at-Stays h.trees.types.stays t.0 k.1))
object_view-Grows h (object.Term t) k = ap state.Object.term (table_law.term_in-Stays h.trees.stays t.0 k.known)
object_view-Grows h (object.Theorem i) k = refl

-- what is known stays known
pub IsListKnown-Grows : {a b : Stored} → Grows a b → (xs : AList) → IsListKnown a xs → IsListKnown b xs
IsListKnown-Grows h Empty k = tt
IsListKnown-Grows h (CellOf c) k = longer h.lists c.0 k

pub IsTerm-Grows : {a b : Stored} → Grows a b → (t : ℕ) → IsTerm a t → IsTerm b t
IsTerm-Grows h t k = record
    { known = omega (arith, k.known, h.trees.longer); typed = subst hol.IsTerm (table_law.term_in-Stays h.trees.stays t k.known) k.typed }

pub IsKnown-Grows : {a b : Stored} → Grows a b → (x : Object) → IsKnown a x → IsKnown b x
IsKnown-Grows h (object.Number z) k = tt
IsKnown-Grows h (object.Name n) k = longer h.names n.0 k
IsKnown-Grows h (object.List xs) k = IsListKnown-Grows h xs k
IsKnown-Grows h (object.TypeOperator n) k = longer h.names n.0 k
IsKnown-Grows h (object.Type t) k = omega (arith, k, h.trees.types.longer)
IsKnown-Grows h (object.Constant n) k = longer h.names n.0 k
IsKnown-Grows h (object.Variable n t) k = (longer h.names n.0 k.0, omega (arith, k.1, h.trees.types.longer))
IsKnown-Grows h (object.Term t) k = IsTerm-Grows h t.0 k
IsKnown-Grows h (object.Theorem i) k = omega (arith, k, h.steps)

pub AreKnown-Grows : {a b : Stored} → Grows a b → (xs : List Object) → AreKnown a xs → AreKnown b xs
AreKnown-Grows h [] k = tt
AreKnown-Grows h (x ∷ xs) k = (IsKnown-Grows h x k.0, AreKnown-Grows h xs k.1)

-- lists stay where the rest grows
pub cells-Grows : {a b : Stored} → Grows a b → (c : Cell) → IsKnown a c.head → IsListKnown a c.tail → cell_view a c ≡ cell_view b c
cells-Grows h c k l = ap₂ state.Objects.more (object_view-Grows h c.head k) (list_view-Grows h c.tail l)

with_cell : {a b : Stored} → Grows a b → a.lists ≡ b.lists → (c : Cell) → IsKnown a c.head → IsListKnown a c.tail
    → (a.lists ++ cell_view a c ∷ []) ≡ (b.lists ++ cell_view b c ∷ [])
with_cell {b = b} h e c k l = ap₂ (λ xs x. xs ++ x ∷ []) e (cells-Grows h c k l)

alike : {a b : Stored} (xs ys : List state.Objects) → Grows a b → xs ≡ ys → Grows (record a { lists = xs }) (record b { lists = ys })
alike xs ys h e = record { trees = h.trees; names = h.names; lists = record { more = []; is = sym e ∙ sym (append-nil xs) }; steps = h.steps }

pub lists_from-Grows : (a b : Stored) → Grows a b → a.lists ≡ b.lists → (cs : List Cell) → AreCells a cs → lists_from a cs ≡ lists_from b cs
lists_from-Grows a b h e [] k = e
lists_from-Grows a b h e (c ∷ cs) k =
    let f = with_cell h e c k.0 k.1 in
    lists_from-Grows (record a { lists = a.lists ++ cell_view a c ∷ [] }) (record b { lists = b.lists ++ cell_view b c ∷ [] }) (alike _ _ h f) f cs k.2

pub AreCells-Grows : (a b : Stored) → Grows a b → a.lists ≡ b.lists → (cs : List Cell) → AreCells a cs → AreCells b cs
AreCells-Grows a b h e [] k = tt
AreCells-Grows a b h e (c ∷ cs) k =
    let f = with_cell h e c k.0 k.1 in (
      IsKnown-Grows h c.head k.0,
      IsListKnown-Grows h c.tail k.1,
      AreCells-Grows (record a { lists = a.lists ++ cell_view a c ∷ [] }) (record b { lists = b.lists ++ cell_view b c ∷ [] }) (alike _ _ h f) f cs k.2,
    )

-- the list of one cell more
pub lists_from-push : (a : Stored) (cs : List Cell) (c : Cell) → lists_from a (cs ++ c ∷ []) ≡ lists_from a cs
    ++ cell_view (record a { lists = lists_from a cs }) c ∷ []
lists_from-push a [] c = refl
lists_from-push a (d ∷ cs) c = lists_from-push (record a { lists = a.lists ++ cell_view a d ∷ [] }) cs c

pub AreCells-push : (a : Stored) (cs : List Cell) (c : Cell) → AreCells a cs → IsKnown (record a { lists = lists_from a cs }) c.head
    → IsListKnown (record a { lists = lists_from a cs }) c.tail → AreCells a (cs ++ c ∷ [])
AreCells-push a [] c k h t = (h, t, tt)
AreCells-push a (d ∷ cs) c k h t = (k.0, k.1, AreCells-push (record a { lists = a.lists ++ cell_view a d ∷ [] }) cs c k.2 h t)

pub length-lists_from : (a : Stored) (cs : List Cell) → length (lists_from a cs) ≡ length a.lists + length cs
length-lists_from a [] = omega arith
length-lists_from a (c ∷ cs) = let e = length-lists_from (record a { lists = a.lists ++ cell_view a c ∷ [] }) cs in let f =
    length-append a.lists (cell_view a c ∷ []) in omega (arith, e, f)

-- the lists that were there are in front
pub lists_from-front : (a : Stored) (cs : List Cell) → IsFront a.lists (lists_from a cs)
lists_from-front a [] = IsFront-refl a.lists
lists_from-front a (c ∷ cs) = IsFront-trans (record { more = cell_view a c ∷ []; is = refl })
    (lists_from-front (record a { lists = a.lists ++ cell_view a c ∷ [] }) cs)
