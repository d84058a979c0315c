-- What a step does to a walk that finds types.
use Rattle.std.proofs.Common.{◌≡◌, ℕ, ◌<◌, sym, ap, ◌∙◌, subst, arith, List, [], ◌∷◌, length, Option, Some, ◌⊎◌, ⊎_elim, refl}
use Rattle.std.specs.Prelude.{slice_get}
use Rattle.std.specs.Option.{option_map}
use Rattle.std.proofs.lemmas.Option.{slice_get_within}
use Rattle.hol_spec.specs.Types.{HolType}
use Rattle.hol_spec.specs.Primitives.{function}
use Rattle.hol_spec.specs.Terms.{bound, app, lam, type_of, type_under, application_type}
use Rattle.hol_spec.specs.TermBinding.{loose}
use Rattle.hol_spec.specs.Limits.{term_size}
use Rattle.hol_type.specs.declared.table.TypeId.{TypeId}
use Rattle.hol_type.specs.Tables.{types_at}
use Rattle.hol_type.specs.Tables as type
use Rattle.hol_type.specs.TableLaws as type_law
use Rattle.hol_term.specs.declared.TermId.{TermId}
use Rattle.hol_term.specs.declared.scopes.ScopeId.{ScopeId}
use Rattle.hol_term.specs.declared.seats.Seat.{Seat}
use Rattle.hol_term.specs.declared.seats.Step.{Step}
use Rattle.hol_term.specs.declared.seats.Step.TheVariants.{Visit, Apply, Abstract}
use Rattle.tree_map.specs.Noted.{IsNoted}
use Rattle.hol_term.specs.Parts.{IsLeaf}
use Rattle.hol_term.specs.Scopes.{list_in, KeepsLists, AddsList}
use Rattle.hol_term.specs.Tables.{Trees, term_at, type_at, Keeps, IsTypeNumber}
use Rattle.hol_term.specs.TableLaws.{IsTypeNumber-Keeps, Keeps-refl}
use Rattle.hol_term.specs.Typing.{type_in, seat_type, IsSeat, AreTypings}
use Rattle.hol_term.specs.Walks.{NotEmpty}
use Rattle.hol_term.specs.Inferring.{HasSeatType, AreTypeNumbers, Ends, IsInferring, count}
use Rattle.hol_term.proofs.ScopeLaws.{list_in-Some, Some-list_in, KeepsLists-refl}
use Rattle.hol_term.proofs.Seated.{binders_known, IsSeat-later, seat_type-later, AreTypings-Keeps, AreTypings-adds, AreTypings-noted}
use Rattle.hol_term.proofs.SubstitutionTurns.{size-positive}
use Rattle.hol_term.proofs.Typings.{in_closed, in_leaf, in_bound}

-- a walk over the same lists
pub same_inferring : (root : Option HolType) (b : Trees) (ls ms : List (List TypeId)) (found notes : List (Seat × Option TypeId)) (steps others : List Step)
    (types more : List (Option TypeId)) → ms ≡ ls → notes ≡ found → others ≡ steps → more ≡ types
    → IsInferring root b ls found steps types → IsInferring root b ms notes others more
same_inferring root b ls ms found notes steps others types more d e f g w =
    subst (λ l. IsInferring root b l notes others more) (sym d)
    (subst (λ l. IsInferring root b ls l others more) (sym e)
    (subst (λ l. IsInferring root b ls found l more) (sym f) (subst (IsInferring root b ls found steps) (sym g) w)))

AreTypeNumbers-Keeps : {a b : List HolType} → type.Keeps a b → (ids : List (Option TypeId)) (os : List (Option HolType)) → AreTypeNumbers a ids os
    → AreTypeNumbers b ids os
AreTypeNumbers-Keeps k [] [] h = tt
AreTypeNumbers-Keeps k (id ∷ ids) (o ∷ os) h = (IsTypeNumber-Keeps k id o h.0, AreTypeNumbers-Keeps k ids os h.1)
AreTypeNumbers-Keeps k [] (o ∷ os) h = absurd h
AreTypeNumbers-Keeps k (id ∷ ids) [] h = absurd h

-- with more types and more lists, the steps come to the same
module _ (a b : Trees) (k : Keeps a b) (ls ms : List (List TypeId)) (kept : KeepsLists ls ms)
    (known : (i : ℕ) (l : List TypeId) → slice_get ls i ≡ Some l → type.AreKnown a.types l) where
  HasSeatType-later : (s : Seat) (o : Option HolType) → HasSeatType a ls s o → HasSeatType b ms s o
  HasSeatType-later s o h = (
    IsSeat-later a b k ls ms kept s h.0,
    sym
        (seat_type-later a b k ls ms kept s h.0 (known s.scope.0 (list_in ls s.scope.0) (list_in-Some ls s.scope.0 h.0.1))) ∙ h.1,
  )

  Ends-later : (root : Option HolType) (steps : List Step) (os : List (Option HolType)) → Ends a ls root steps os → Ends b ms root steps os
  Ends-later root [] os h = h
  Ends-later root (Visit s ∷ rest) os h = (h.0, HasSeatType-later s h.0 h.1, Ends-later root rest (h.0 ∷ os) h.2)
  Ends-later root (Apply s ∷ rest) (x ∷ f ∷ os) h = (HasSeatType-later s (application_type f x) h.0, Ends-later root rest (application_type f x ∷ os) h.1)
  Ends-later root (Apply s ∷ rest) (x ∷ []) h = absurd h
  Ends-later root (Apply s ∷ rest) [] h = absurd h
  Ends-later root (Abstract s ty ∷ rest) (o ∷ os) h =
      (h.0, k.types.stays.each ty.0 h.0 h.1, HasSeatType-later s (option_map (function h.0) o) h.2, Ends-later root rest (option_map (function h.0) o ∷ os) h.3)
  Ends-later root (Abstract s ty ∷ rest) [] h = absurd h

-- a walk at its beginning, and at its end
pub inferring_begins : (b : Trees) (ls : List (List TypeId)) (found : List (Seat × Option TypeId)) (s : Seat) → IsSeat b ls s → AreTypings b ls found
    → IsInferring (seat_type b ls s) b ls found (Visit s ∷ []) []
inferring_begins b ls found s seat typings = record { typings = typings; values = []; numbers = tt; ends = (seat_type b ls s, (seat, refl), refl) }

pub inferring_ends : (root : Option HolType) (b : Trees) (ls : List (List TypeId)) (found : List (Seat × Option TypeId)) (types : List (Option TypeId))
    → IsInferring root b ls found [] types → NotEmpty types
inferring_ends root b ls found types w = go types w.values w.numbers w.ends
  where
    go : (types : List (Option TypeId)) (os : List (Option HolType)) → AreTypeNumbers b.types types os → os ≡ root ∷ [] → NotEmpty types
    go [] [] h e = absurd (cc)
    go [] (o ∷ os) h e = absurd h
    go (r ∷ types) os h e = tt

pub inferring_gives : (root : Option HolType) (b : Trees) (ls : List (List TypeId)) (found : List (Seat × Option TypeId)) (types : List (Option TypeId))
    (r : Option TypeId) → IsInferring root b ls found [] (r ∷ types) → IsTypeNumber b.types r root
inferring_gives root b ls found types r w = go w.values w.numbers w.ends
  where
    top : List (Option HolType) → Option HolType
    top [] = root
    top (x ∷ xs) = x

    go : (os : List (Option HolType)) → AreTypeNumbers b.types (r ∷ types) os → os ≡ root ∷ [] → IsTypeNumber b.types r root
    go [] h e = absurd h
    go (o ∷ os) h e = let same : o ≡ root = ap top e in subst (IsTypeNumber b.types r) same h.0

-- a type that is found and noted
module _ (root : Option HolType) (b g : Trees) (k : Keeps b g) (ls : List (List TypeId)) (found more : List (Seat × Option TypeId)) (s : Seat)
    (steps : List Step) (types : List (Option TypeId)) (r : Option TypeId)
    (notes : (q : Seat) (u : Option TypeId) → IsNoted more q u → IsNoted found q u ⊎ ((q ≡ s) × (u ≡ r))) where
  kept : (os : List (Option HolType)) (o : Option HolType) → AreTypings b ls found → AreTypeNumbers b.types types os → HasSeatType b ls s o
      → IsTypeNumber g.types r o → Ends b ls root steps (o ∷ os) → IsInferring root g ls more steps (r ∷ types)
  kept os o typings numbers at h ends = record {
    typings = AreTypings-noted b g k ls ls found more s r (KeepsLists-refl ls) at.0 (binders_known b ls found typings s.scope.0 at.0.1)
        (AreTypings-Keeps b g ls found k typings) (subst (IsTypeNumber g.types r) (sym at.1) h) notes;
    values = o ∷ os;
    numbers = (h, AreTypeNumbers-Keeps k.types types os numbers);
    ends = Ends-later b g k ls ls (KeepsLists-refl ls) typings.known root steps (o ∷ os) ends;
  }

-- A visit
pub visit_less : (b : Trees) (s : Seat) (steps : List Step) → count b.terms steps < count b.terms (Visit s ∷ steps)
visit_less b s steps = let l = size-positive (term_at b s.id.0) in omega (arith, l)

pub application_count : (b : Trees) (s : Seat) (steps : List Step) (f x : TermId) → term_at b s.id.0 ≡ app (term_at b f.0) (term_at b x.0)
    → count b.terms (Visit (record { id = f; scope = s.scope }) ∷ Visit (record { id = x; scope = s.scope }) ∷ Apply s ∷ steps) < count b.terms
    (Visit s ∷ steps)
application_count b s steps f x at = let e = ap term_size at in omega (arith, e)

pub abstraction_count : (b : Trees) (s : Seat) (steps : List Step) (ty : TypeId) (scope : ScopeId) (x : TermId) → term_at b s.id.0
    ≡ lam (type_at b ty.0) (term_at b x.0) → count b.terms (Visit (record { id = x; scope = scope }) ∷ Abstract s ty ∷ steps) < count b.terms (Visit s ∷ steps)
abstraction_count b s steps ty scope x at = let e = ap term_size at in omega (arith, e)

module _ (root : Option HolType) (b : Trees) (ls : List (List TypeId)) (found : List (Seat × Option TypeId)) (s : Seat) (steps : List Step)
    (types : List (Option TypeId)) (w : IsInferring root b ls found (Visit s ∷ steps) types) where
  pub visit_known : IsSeat b ls s
  visit_known = w.ends.1.0

  pub visit_binders : type.AreKnown b.types (list_in ls s.scope.0)
  visit_binders = binders_known b ls found w.typings s.scope.0 w.ends.1.0.1

  pub found_again : (r : Option TypeId) → ((loose (term_at b s.id.0) ≡ 0) × IsTypeNumber b.types r (type_of (term_at b s.id.0))) ⊎ IsNoted found s r
      → IsInferring root b ls found steps (r ∷ types)
  found_again r h = record { typings = w.typings; values = w.ends.0 ∷ w.values; numbers = (own, w.numbers); ends = w.ends.2 }
    where
      own : IsTypeNumber b.types r w.ends.0
      own = subst (IsTypeNumber b.types r) w.ends.1.1 (⊎_elim
          (λ closed. in_closed b (list_in ls s.scope.0) s.id.0 r (omega (arith, closed.0)) closed.1)
          (λ n. (w.typings.each s r n).1)
          h)

  -- a leaf
  module _ (more : List (Seat × Option TypeId)) (r : Option TypeId)
      (notes : (q : Seat) (u : Option TypeId) → IsNoted more q u → IsNoted found q u ⊎ ((q ≡ s) × (u ≡ r))) where
    found_at : IsTypeNumber b.types r (seat_type b ls s) → IsInferring root b ls more steps (r ∷ types)
    found_at h = kept root b b (Keeps-refl b) ls found more s steps types r notes w.values w.ends.0 w.typings w.numbers w.ends.1
        (subst (IsTypeNumber b.types r) w.ends.1.1 h) w.ends.2

    pub found_leaf : IsLeaf (term_at b s.id.0) → IsTypeNumber b.types r (type_of (term_at b s.id.0)) → IsInferring root b ls more steps (r ∷ types)
    found_leaf leaf h = found_at (in_leaf b (list_in ls s.scope.0) s.id.0 r leaf h)

    pub found_bound : (n : ℕ) → term_at b s.id.0 ≡ bound n → r ≡ slice_get (list_in ls s.scope.0) n → IsInferring root b ls more steps (r ∷ types)
    found_bound n e at = found_at (in_bound b (list_in ls s.scope.0) s.id.0 n r visit_binders e at)

  -- an application
  module _ (f x : TermId) (e : term_at b s.id.0 ≡ app (term_at b f.0) (term_at b x.0)) (lf : f.0 < s.id.0) (lx : x.0 < s.id.0) where
    pub infer_application : IsInferring root b ls found
        (Visit (record { id = f; scope = s.scope }) ∷ Visit (record { id = x; scope = s.scope }) ∷ Apply s ∷ steps) types
    infer_application =
        let bs = list_in ls s.scope.0 in
        let lt = w.ends.1.0.0 in
        let same : seat_type b ls s ≡ application_type (type_in b bs f.0) (type_in b bs x.0) = ap (type_under (types_at b.types bs)) e in
        record {
          typings = w.typings;
          values = w.values;
          numbers = w.numbers;
          ends = (
            type_in b bs f.0,
            ((omega (arith, lt, lf), w.ends.1.0.1), refl),
            (
              type_in b bs x.0,
              ((omega (arith, lt, lx), w.ends.1.0.1), refl),
              ((w.ends.1.0, same), subst (λ o. Ends b ls root steps (o ∷ w.values)) (sym w.ends.1.1 ∙ same) w.ends.2),
            ),
          );
        }

  -- an abstraction, once its variable is put before the binders
  module _ (ms : List (List TypeId)) (ty : TypeId) (keeps : KeepsLists ls ms) (adds : AddsList ls ms (ty ∷ list_in ls s.scope.0)) (scope : ScopeId)
      (entered : slice_get ms scope.0 ≡ Some (ty ∷ list_in ls s.scope.0)) (x : TermId) (e : term_at b s.id.0 ≡ lam (type_at b ty.0) (term_at b x.0))
      (lx : x.0 < s.id.0) (lt : ty.0 < length b.types) where
    pub infer_abstraction : IsInferring root b ms found (Visit (record { id = x; scope = scope }) ∷ Abstract s ty ∷ steps) types
    infer_abstraction =
        let bs = list_in ls s.scope.0 in
        let own = w.ends.1.0.0 in
        let inner = ap (λ l. type_in b l x.0) (Some-list_in ms scope.0 (ty ∷ bs) entered) in
        let same : seat_type b ls s ≡ option_map (function (type_at b ty.0)) (type_in b (ty ∷ bs) x.0) = ap (type_under (types_at b.types bs)) e in
        let made = option_map (function (type_at b ty.0)) (type_in b (ty ∷ bs) x.0) in
        record {
          typings = AreTypings-adds b ls ms found (ty ∷ bs) (Keeps-refl b) keeps adds (lt, visit_binders) w.typings;
          values = w.values;
          numbers = w.numbers;
          ends = (
            type_in b (ty ∷ bs) x.0,
            ((omega (arith, own, lx), slice_get_within ms scope.0 (ty ∷ bs) entered), inner),
            (
              type_at b ty.0,
              type_law.tree_at-Holds b.types ty.0 lt,
              HasSeatType-later b b (Keeps-refl b) ls ms keeps w.typings.known s made (w.ends.1.0, same),
              Ends-later b b (Keeps-refl b) ls ms keeps w.typings.known root steps (made ∷ w.values)
                  (subst (λ o. Ends b ls root steps (o ∷ w.values)) (sym w.ends.1.1 ∙ same) w.ends.2),
            ),
          );
        }

-- A type that comes back
module _ (root : Option HolType) (b : Trees) (ls : List (List TypeId)) (found : List (Seat × Option TypeId)) (s : Seat) (steps : List Step) where
  -- what is taken up is there, and is a type's number
  pub apply_two : (types : List (Option TypeId)) → IsInferring root b ls found (Apply s ∷ steps) types → NotEmpty types
  apply_two types w = go types w.values w.numbers w.ends
    where
      go : (types : List (Option TypeId)) (os : List (Option HolType)) → AreTypeNumbers b.types types os → Ends b ls root (Apply s ∷ steps) os → NotEmpty types
      go [] [] h e = absurd e
      go [] (o ∷ os) h e = absurd h
      go (r ∷ types) os h e = tt

  pub apply_one : (x : Option TypeId) (types : List (Option TypeId)) → IsInferring root b ls found (Apply s ∷ steps) (x ∷ types) → NotEmpty types
  apply_one x types w = go types w.values w.numbers w.ends
    where
      go : (types : List (Option TypeId)) (os : List (Option HolType)) → AreTypeNumbers b.types (x ∷ types) os → Ends b ls root (Apply s ∷ steps) os
          → NotEmpty types
      go [] [] h e = absurd e
      go [] (o ∷ []) h e = absurd e
      go [] (o ∷ p ∷ os) h e = absurd h.1
      go (r ∷ types) os h e = tt

  pub apply_known : (x f : Option TypeId) (types : List (Option TypeId)) → IsInferring root b ls found (Apply s ∷ steps) (x ∷ f ∷ types) → (o : Option HolType)
      × IsTypeNumber b.types f o
  apply_known x f types w = go w.values w.numbers
    where
      go : (os : List (Option HolType)) → AreTypeNumbers b.types (x ∷ f ∷ types) os → (o : Option HolType) × IsTypeNumber b.types f o
      go [] h = absurd h
      go (o ∷ []) h = absurd h.1
      go (o ∷ p ∷ os) h = (p, h.1.0)

  pub found_application : (more : List (Seat × Option TypeId)) (r : Option TypeId)
      → ((q : Seat) (u : Option TypeId) → IsNoted more q u → IsNoted found q u ⊎ ((q ≡ s) × (u ≡ r)))
      → (x f : Option TypeId) (types : List (Option TypeId)) → IsInferring root b ls found (Apply s ∷ steps) (x ∷ f ∷ types)
      → ((o p : Option HolType) → IsTypeNumber b.types f o → IsTypeNumber b.types x p → IsTypeNumber b.types r (application_type o p))
      → IsInferring root b ls more steps (r ∷ types)
  found_application more r notes x f types w h = go w.values w.numbers w.ends
    where
      go : (os : List (Option HolType)) → AreTypeNumbers b.types (x ∷ f ∷ types) os → Ends b ls root (Apply s ∷ steps) os
          → IsInferring root b ls more steps (r ∷ types)
      go [] n e = absurd e
      go (o ∷ []) n e = absurd e
      go (o ∷ p ∷ os) n e = kept root b b (Keeps-refl b) ls found more s steps types r notes os (application_type p o) w.typings n.1.1 e.0 (h p o n.1.0 n.0) e.1

module _ (root : Option HolType) (b : Trees) (ls : List (List TypeId)) (found : List (Seat × Option TypeId)) (s : Seat) (ty : TypeId) (steps : List Step) where
  pub abstract_one : (types : List (Option TypeId)) → IsInferring root b ls found (Abstract s ty ∷ steps) types → NotEmpty types
  abstract_one types w = go types w.values w.numbers w.ends
    where
      go : (types : List (Option TypeId)) (os : List (Option HolType)) → AreTypeNumbers b.types types os → Ends b ls root (Abstract s ty ∷ steps) os
          → NotEmpty types
      go [] [] h e = absurd e
      go [] (o ∷ os) h e = absurd h
      go (r ∷ types) os h e = tt

  pub abstract_known : (x : Option TypeId) (types : List (Option TypeId)) → IsInferring root b ls found (Abstract s ty ∷ steps) (x ∷ types)
      → (ty.0 < length b.types) × ((o : Option HolType) × IsTypeNumber b.types x o)
  abstract_known x types w = go w.values w.numbers w.ends
    where
      go : (os : List (Option HolType)) → AreTypeNumbers b.types (x ∷ types) os → Ends b ls root (Abstract s ty ∷ steps) os → (ty.0 < length b.types)
          × ((o : Option HolType) × IsTypeNumber b.types x o)
      go [] h e = absurd h
      go (o ∷ os) h e = (slice_get_within b.types ty.0 e.0 e.1, (o, h.0))

  pub found_abstraction : (g : Trees) → Keeps b g → (more : List (Seat × Option TypeId)) (r : Option TypeId)
      → ((q : Seat) (u : Option TypeId) → IsNoted more q u → IsNoted found q u ⊎ ((q ≡ s) × (u ≡ r)))
      → (x : Option TypeId) (types : List (Option TypeId)) → IsInferring root b ls found (Abstract s ty ∷ steps) (x ∷ types)
      → ((o : Option HolType) → IsTypeNumber b.types x o → IsTypeNumber g.types r (option_map (function (type_at b ty.0)) o))
      → IsInferring root g ls more steps (r ∷ types)
  found_abstraction g k more r notes x types w h = go w.values w.numbers w.ends
    where
      go : (os : List (Option HolType)) → AreTypeNumbers b.types (x ∷ types) os → Ends b ls root (Abstract s ty ∷ steps) os
          → IsInferring root g ls more steps (r ∷ types)
      go [] n e = absurd e
      go (o ∷ os) n e =
          let same : type_at b ty.0 ≡ e.0 = type_law.Holds-tree_at b.types ty.0 e.0 e.1 in
          kept root b g k ls found more s steps types r notes os (option_map (function e.0) o) w.typings n.1 e.2
          (subst (λ t. IsTypeNumber g.types r (option_map (function t) o)) same (h o n.0)) e.3
