-- The type variables of a part are no more than those of the whole; the type of a term is not much larger than the term, and has no other
-- type variables.
use Rattle.std.proofs.Common.{◌≡◌, ℕ, zero, suc, ◌+◌, ◌*◌, ◌≤◌, List, [], ◌∷◌, ◌++◌, length, Bool, true, false, ◌||◌, Some, inl, inr, refl, sym, ap, subst, arith}
use Rattle.std.specs.Prelude.{slice_get}
use Rattle.std.specs.Cmp.{IsEquivalence}
use Rattle.std.specs.List.{AllByRecursion, list_any}
use Rattle.std.proofs.lemmas.Map.Made.{length-le_from_is_member}
use Rattle.hol_spec.specs.Names.{Name}
use Rattle.hol_spec.specs.NameEquality.{name_eq}
use Rattle.hol_spec.specs.Lists.{distinct, IsIn}
use Rattle.hol_spec.specs.Types.{HolType, variable_places, type_variables}
use Rattle.hol_spec.specs.Primitives.{function}
use Rattle.hol_spec.specs.Limits.{type_size, term_size}
use Rattle.hol_spec.specs.Terms.{Term, free, bound, constant, app, lam, HasType, type_under, type_variable_places}
use Rattle.hol_laws.specs.NameEqualityLaws.{name_eq-Decides}
use Rattle.hol_laws.specs.ListLaws.{distinct-IsDistinct}
use Rattle.hol_laws.specs.Members.{All-append, All-left, All-right, All-each, All-at, is_in-IsIn, IsIn-distinct, IsIn-distinct_of}
use Rattle.hol_laws.specs.TermSubstitutionLaws.{application_type-is, abstraction_type-is}
use Rattle.hol_proof_laws.specs.SymbolGrowth.{symmetric}
use Rattle.std.proofs.lemmas.Option.{same_Some}
use Rattle.std.proofs.lemmas.Bool.Decides.{same_from_decides}

-- the test of names as an equivalence
names-equivalence : IsEquivalence name_eq
names-equivalence = record {
  refl = λ x. (name_eq-Decides x x).1 refl;
  symm = λ x y. same_from_decides (name_eq x y) (name_eq y x) (name_eq-Decides x y)
      (λ h. sym ((name_eq-Decides y x).0 h), λ h. (name_eq-Decides y x).1 (sym h));
  congr = λ x y z e. ap (λ v. name_eq v z) ((name_eq-Decides x y).0 e);
}

-- an element in a list passes the test
is_in-found : (ns : List Name) (n : Name) → IsIn ns n → list_any (name_eq n) ns ≡ true
is_in-found [] n k = absurd k
is_in-found (m ∷ ms) n (inl e) = ap (λ b. b || list_any (name_eq n) ms) ((name_eq-Decides n m).1 e)
is_in-found (m ∷ ms) n (inr k) = later (name_eq n m) (is_in-found ms n k)
  where
    later : (b : Bool) → list_any (name_eq n) ms ≡ true → (b || list_any (name_eq n) ms) ≡ true
    later true h = refl
    later false h = h

-- where each name of a list is in another, there are no more distinct ones
pub few-distinct : (ms ns : List Name) → AllByRecursion (IsIn ns) ms → length (distinct name_eq ms) ≤ length (distinct name_eq ns)
few-distinct ms ns h =
    length-le_from_is_member names-equivalence (distinct name_eq ms) (distinct name_eq ns)
    (distinct-IsDistinct name_eq (λ x y e. symmetric name_eq name_eq-Decides x y e) ms)
    (λ q k. is_in-found (distinct name_eq ns) q (IsIn-distinct name_eq name_eq-Decides ns q
    (All-at (IsIn ns) ms q h (IsIn-distinct_of name_eq name_eq-Decides ms q (is_in-IsIn name_eq name_eq-Decides (distinct name_eq ms) q k)))))

-- the type of a term is at most twice as large, beside the binders' types
type_under-size : (d : ℕ) (binders : List HolType) → ((k : ℕ) (a : HolType) → slice_get binders k ≡ Some a → type_size a ≤ d) → (t : Term) (a : HolType)
    → type_under binders t ≡ Some a → type_size a ≤ 2 * term_size t + d
type_under-size d binders b (free n t) a e = let same = ap type_size (same_Some _ _ e) in omega (arith, same)
type_under-size d binders b (bound k) a e = let h = b k a e in omega (arith, h)
type_under-size d binders b (constant n t) a e = let same = ap type_size (same_Some _ _ e) in omega (arith, same)
type_under-size d binders b (app f x) a e =
    let p = application_type-is (type_under binders f) (type_under binders x) a e in
    let h = type_under-size d binders b f (function p.0 a) p.1.0 in
    omega (arith, h)
type_under-size d binders b (lam t c) a e =
    let p = abstraction_type-is t (type_under (t ∷ binders) c) a e in
    let h = type_under-size (d + type_size t) (t ∷ binders) (under t b) c p.0 p.1.0 in
    let same = ap type_size p.1.1 in
    omega (arith, h, same)
  where
    under : (t : HolType) → ((k : ℕ) (a : HolType) → slice_get binders k ≡ Some a → type_size a ≤ d) → (k : ℕ) (a : HolType)
        → slice_get (t ∷ binders) k ≡ Some a → type_size a ≤ d + type_size t
    under t b zero a e = let same = ap type_size (same_Some _ _ e) in omega (arith, same)
    under t b (suc k) a e = let h = b k a e in omega (arith, h)

pub HasType-size : (t : Term) (a : HolType) → HasType t a → type_size a ≤ 2 * term_size t
HasType-size t a e = let h = type_under-size 0 [] (λ k b f. absurd (cc)) t a e in omega (arith, h)

-- the type of a term has no other type variables
module _ (P : Name → Type 0) where
  type_under-variables : (binders : List HolType) → ((k : ℕ) (a : HolType) → slice_get binders k ≡ Some a → AllByRecursion P (variable_places a))
      → (t : Term) (a : HolType) → AllByRecursion P (type_variable_places t) → type_under binders t ≡ Some a → AllByRecursion P (variable_places a)
  type_under-variables binders b (free n t) a h e = subst (λ u. AllByRecursion P (variable_places u)) (same_Some _ _ e) h
  type_under-variables binders b (bound k) a h e = b k a e
  type_under-variables binders b (constant n t) a h e = subst (λ u. AllByRecursion P (variable_places u)) (same_Some _ _ e) h
  type_under-variables binders b (app f x) a h e =
      let p = application_type-is (type_under binders f) (type_under binders x) a e in
      let k = type_under-variables binders b f (function p.0 a) (All-left P (type_variable_places f) (type_variable_places x) h) p.1.0 in
      All-left P (variable_places a) [] (All-right P (variable_places p.0) (variable_places a ++ []) k)
  type_under-variables binders b (lam t c) a h e =
      let p = abstraction_type-is t (type_under (t ∷ binders) c) a e in
      let own = All-left P (variable_places t) (type_variable_places c) h in
      let k = type_under-variables (t ∷ binders) (under t own b) c p.0 (All-right P (variable_places t) (type_variable_places c) h) p.1.0 in
      subst (λ u. AllByRecursion P (variable_places u)) (sym p.1.1)
      (All-append P (variable_places t) (variable_places p.0 ++ []) own (All-append P (variable_places p.0) [] k (tt {0})))
    where
      under : (t : HolType) → AllByRecursion P (variable_places t)
          → ((k : ℕ) (a : HolType) → slice_get binders k ≡ Some a → AllByRecursion P (variable_places a)) → (k : ℕ) (a : HolType)
          → slice_get (t ∷ binders) k ≡ Some a → AllByRecursion P (variable_places a)
      under t own b zero a e = subst (λ u. AllByRecursion P (variable_places u)) (same_Some _ _ e) own
      under t own b (suc k) a e = b k a e

pub HasType-variables : (t : Term) (a : HolType) → HasType t a → length (type_variables a) ≤ length (distinct name_eq (type_variable_places t))
HasType-variables t a e =
    few-distinct (variable_places a) (type_variable_places t)
    (type_under-variables (IsIn (type_variable_places t)) [] (λ k b f. absurd (cc)) t a
    (All-each (IsIn (type_variable_places t)) (type_variable_places t) (λ n k. k)) e)
