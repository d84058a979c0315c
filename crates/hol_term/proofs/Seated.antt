-- What is known of the types that a walk has found, from step to step.
use Rattle.std.proofs.Common.{◌≡◌, ℕ, zero, suc, ◌<◌, sym, ap, ◌∙◌, subst, arith, List, [], ◌∷◌, length, Option, Some, ◌⊎◌, ⊎_elim}
use Rattle.std.specs.Prelude.{slice_get}
use Rattle.std.proofs.lemmas.Option.{same_Some}
use Rattle.hol_type.specs.declared.table.TypeId.{TypeId}
use Rattle.hol_type.specs.Tables as type
use Rattle.hol_type.specs.TableLaws as type_law
use Rattle.hol_term.specs.declared.seats.Seat.{Seat}
use Rattle.tree_map.specs.Noted.{IsNoted}
use Rattle.hol_term.specs.Scopes.{list_in, KeepsLists, AddsList}
use Rattle.hol_term.specs.Tables.{Trees, Keeps, IsTypeNumber}
use Rattle.hol_term.specs.TableLaws.{IsTypeNumber-Keeps}
use Rattle.hol_term.specs.Typing.{type_in, seat_type, IsSeat, AreTypings}
use Rattle.hol_term.proofs.ScopeLaws.{list_in-Some, list_in-Keeps, within-Keeps, KeepsLists-refl}
use Rattle.hol_term.proofs.Typings.{type_in-Keeps}

-- the binders of a seat have types of the table
pub binders_known : (a : Trees) (ls : List (List TypeId)) (f : List (Seat × Option TypeId)) → AreTypings a ls f → (i : ℕ) → i < length ls
    → type.AreKnown a.types (list_in ls i)
binders_known a ls f t i h = t.known i (list_in ls i) (list_in-Some ls i h)

-- with more types and more lists, a seat's tree has the same type
module _ (a b : Trees) (k : Keeps a b) (ls ms : List (List TypeId)) (kept : KeepsLists ls ms) where
  pub IsSeat-later : (s : Seat) → IsSeat a ls s → IsSeat b ms s
  IsSeat-later s h = (omega (arith, k.longer, h.0), within-Keeps kept s.scope.0 h.1)

  pub seat_type-later : (s : Seat) → IsSeat a ls s → type.AreKnown a.types (list_in ls s.scope.0) → seat_type a ls s ≡ seat_type b ms s
  seat_type-later s h g = type_in-Keeps a b (list_in ls s.scope.0) s.id.0 k g h.0 ∙ ap (λ bs. type_in b bs s.id.0) (list_in-Keeps kept s.scope.0 h.1)

-- with more types, what was found is still right
pub AreTypings-Keeps : (a b : Trees) (ls : List (List TypeId)) (f : List (Seat × Option TypeId)) → Keeps a b → AreTypings a ls f → AreTypings b ls f
AreTypings-Keeps a b ls f k t = record {
  known = λ i l e. type_law.AreKnown-Keeps k.types l (t.known i l e);
  each = λ s ty n.
      let w = t.each s ty n in
      let kept = KeepsLists-refl ls in (
        IsSeat-later a b k ls ls kept s w.0,
        subst (IsTypeNumber b.types ty) (seat_type-later a b k ls ls kept s w.0 (binders_known a ls f t s.scope.0 w.0.1))
            (IsTypeNumber-Keeps k.types ty (seat_type a ls s) w.1),
      );
}

-- with a list more, what was found is still right
pub AreTypings-adds : (a : Trees) (ls ms : List (List TypeId)) (f : List (Seat × Option TypeId)) (l : List TypeId) (k : Keeps a a) → KeepsLists ls ms
    → AddsList ls ms l → type.AreKnown a.types l → AreTypings a ls f → AreTypings a ms f
AreTypings-adds a ls ms f l k kept adds g t = record {
  known = λ i m e. ⊎_elim (λ old. t.known i m old) (λ new. subst (type.AreKnown a.types) (sym new) g) (adds.each i m e);
  each = λ s ty n.
      let w = t.each s ty n in (
        IsSeat-later a a k ls ms kept s w.0,
        subst (IsTypeNumber a.types ty) (seat_type-later a a k ls ms kept s w.0 (binders_known a ls f t s.scope.0 w.0.1)) w.1,
      );
}

-- what was found, and one seat more
pub AreTypings-noted : (a b : Trees) (k : Keeps a b) (ls ms : List (List TypeId)) (f more : List (Seat × Option TypeId)) (s : Seat) (ty : Option TypeId)
    → KeepsLists ls ms → IsSeat a ls s → type.AreKnown a.types (list_in ls s.scope.0) → AreTypings b ms f → IsTypeNumber b.types ty (seat_type a ls s)
    → ((q : Seat) (u : Option TypeId) → IsNoted more q u → IsNoted f q u ⊎ ((q ≡ s) × (u ≡ ty))) → AreTypings b ms more
AreTypings-noted a b k ls ms f more s ty kept at g t h notes = record {
  known = t.known;
  each = λ q u n. ⊎_elim (λ old. t.each q u old) (λ new. here q u new.0 new.1) (notes q u n);
}
  where
    found : IsSeat b ms s × IsTypeNumber b.types ty (seat_type b ms s)
    found = (IsSeat-later a b k ls ms kept s at, subst (IsTypeNumber b.types ty) (seat_type-later a b k ls ms kept s at g) h)

    here : (q : Seat) (u : Option TypeId) → q ≡ s → u ≡ ty → IsSeat b ms q × IsTypeNumber b.types u (seat_type b ms q)
    here q u e d = subst (λ (w : Seat). IsSeat b ms w × IsTypeNumber b.types u (seat_type b ms w)) (sym e)
        (subst (λ v. IsSeat b ms s × IsTypeNumber b.types v (seat_type b ms s)) (sym d) found)

-- without binders nothing is found yet
pub AreTypings-none : (a : Trees) (ls : List (List TypeId)) (f : List (Seat × Option TypeId)) → ls ≡ [] ∷ []
    → ((s : Seat) (ty : Option TypeId) → IsNoted f s ty → ⊥) → AreTypings a ls f
AreTypings-none a ls f e none = subst (λ ms. AreTypings a ms f) (sym e) (record {
  known = λ i l at. empty i l at;
  each = λ s ty n. absurd (none s ty n);
})
  where
    empty : (i : ℕ) (l : List TypeId) → slice_get {X = List TypeId} ([] ∷ []) i ≡ Some l → type.AreKnown a.types l
    empty zero l at = subst (type.AreKnown a.types) (same_Some _ _ at) tt
    empty (suc i) l at = absurd (cc)
