-- Depths of parts of terms, of what is put in a substitution, and of the types of terms.
use Rattle.std.proofs.Common.{◌≡◌, ℕ, zero, suc, ◌+◌, ◌*◌, ◌≤◌, List, [], ◌∷◌, Bool, true, false, cond, Some, refl, sym, ap, subst, arith}
use Rattle.std.specs.Prelude.{slice_get}
use Rattle.std.specs.Map.{lookup}
use Rattle.std.specs.Option.{unwrap_or}
use Rattle.std.specs.List.{AllByRecursion, flat_map}
use Rattle.hol_spec.specs.NameEquality.{name_eq}
use Rattle.hol_spec.specs.Lists.{distinct}
use Rattle.hol_spec.specs.Types.{HolType, HolTypes, variable, operator, none, more, variable_places, variable_places_of_all}
use Rattle.hol_spec.specs.Primitives.{function}
use Rattle.hol_spec.specs.Limits.{type_depth, types_depth, term_depth, greatest_by, greatest_depth, SequentWithin}
use Rattle.hol_spec.specs.Substitution.{TypePairs, image, substitute, substitute_all}
use Rattle.hol_spec.specs.Terms.{Term, free, bound, constant, app, lam, Variable, variable_eq, HasType, type_under, type_variable_places, free_places}
use Rattle.hol_spec.specs.TermSubstitution.{TermPairs, term_image, sub, AreFitting}
use Rattle.hol_spec.specs.DefinitionLists.{ConstantPairs, constants_put}
use Rattle.hol_spec.specs.Sequents.{Sequent, terms_of, type_variables_of, free_variables_of}
use Rattle.hol_laws.specs.ListLaws.{union-All}
use Rattle.hol_laws.specs.Members.{All-append}
use Rattle.hol_laws.specs.TermLaws.{variable_eq-Decides}
use Rattle.hol_laws.specs.TermSubstitutionLaws.{application_type-is, abstraction_type-is}
use Rattle.std.proofs.lemmas.Option.{same_Some}

-- what holds of all elements holds of each where it occurs first
pub All-distinct : {A : Type 0} (P : A → Type 0) (same : A → A → Bool) (xs : List A) → AllByRecursion P xs → AllByRecursion P (distinct same xs)
All-distinct P same xs h = union-All P same xs [] (tt {0}) h

-- each is at most the greatest
pub greatest_by-All : {A : Type 0} (measure : A → ℕ) (xs : List A) (d : ℕ) → greatest_by measure xs ≤ d → AllByRecursion (λ x. measure x ≤ d) xs
greatest_by-All measure [] d h = tt
greatest_by-All measure (x ∷ xs) d h = (omega (arith, h), greatest_by-All measure xs d (omega (arith, h)))

-- terms of at most this depth
abbrev pub AreShallowTerms : ℕ → List Term → Type 0
AreShallowTerms d ts = AllByRecursion (λ t. term_depth t ≤ d) ts

pub sequent-depth : (s : Sequent) → SequentWithin s → AreShallowTerms greatest_depth (terms_of s)
sequent-depth s h = greatest_by-All term_depth (terms_of s) greatest_depth h.depth

-- the types of free variables lie in the term
pub free_places-depth : (t : Term) (d : ℕ) → term_depth t ≤ d → AllByRecursion (λ (v : Variable). type_depth v.1 ≤ d) (free_places t)
free_places-depth (free n t) d h = (omega (arith, h), tt {0})
free_places-depth (bound k) d h = tt
free_places-depth (constant n t) d h = tt
free_places-depth (app f x) d h = All-append _ (free_places f) (free_places x) (free_places-depth f d (omega (arith, h)))
    (free_places-depth x d (omega (arith, h)))
free_places-depth (lam t b) d h = free_places-depth b d (omega (arith, h))

all_free_places-depth : (ts : List Term) (d : ℕ) → AreShallowTerms d ts → AllByRecursion (λ (v : Variable). type_depth v.1 ≤ d) (flat_map free_places ts)
all_free_places-depth [] d h = tt
all_free_places-depth (t ∷ ts) d h = All-append _ (free_places t) (flat_map free_places ts) (free_places-depth t d h.0) (all_free_places-depth ts d h.1)

pub free_variables-depth : (s : Sequent) (d : ℕ) → AreShallowTerms d (terms_of s) → AllByRecursion (λ (v : Variable). type_depth v.1 ≤ d) (free_variables_of s)
free_variables-depth s d h = All-distinct _ variable_eq (flat_map free_places (terms_of s)) (all_free_places-depth (terms_of s) d h)

-- the type of a term is no deeper than twice the term above the deepest of its types
pub type_under-depth : (d : ℕ) (binders : List HolType) → ((k : ℕ) (a : HolType) → slice_get binders k ≡ Some a → type_depth a ≤ d) → (t : Term) (a : HolType)
    → term_depth t ≤ d → type_under binders t ≡ Some a → type_depth a ≤ 2 * term_depth t + d
type_under-depth d binders b (free n t) a l e = let same = ap type_depth (same_Some _ _ e) in omega (arith, same, l)
type_under-depth d binders b (bound k) a l e = let h = b k a e in omega (arith, h)
type_under-depth d binders b (constant n t) a l e = let same = ap type_depth (same_Some _ _ e) in omega (arith, same, l)
type_under-depth d binders b (app f x) a l e =
    let p = application_type-is (type_under binders f) (type_under binders x) a e in
    let h = type_under-depth d binders b f (function p.0 a) (omega (arith, l)) p.1.0 in
    omega (arith, h)
type_under-depth d binders b (lam t c) a l e =
    let p = abstraction_type-is t (type_under (t ∷ binders) c) a e in
    let h = type_under-depth d (t ∷ binders) (under t (omega (arith, l)) b) c p.0 (omega (arith, l)) p.1.0 in
    let same = ap type_depth p.1.1 in
    omega (arith, h, same, l)
  where
    under : (t : HolType) → type_depth t ≤ d → ((k : ℕ) (a : HolType) → slice_get binders k ≡ Some a → type_depth a ≤ d) → (k : ℕ) (a : HolType)
        → slice_get (t ∷ binders) k ≡ Some a → type_depth a ≤ d
    under t l b zero a e = let same = ap type_depth (same_Some _ _ e) in omega (arith, same, l)
    under t l b (suc k) a e = b k a e

pub HasType-depth : (d : ℕ) (t : Term) (a : HolType) → term_depth t ≤ d → HasType t a → type_depth a ≤ 3 * d
HasType-depth d t a l e = let h = type_under-depth d [] (λ k b f. absurd (cc)) t a l e in omega (arith, h, l)

-- what is put for the variables of a type lies in what it becomes
module _ (pairs : TypePairs) where
  mutual
    images-depth : (d : ℕ) (t : HolType) → type_depth (substitute pairs t) ≤ d → AllByRecursion (λ n. type_depth (image pairs n) ≤ d) (variable_places t)
    images-depth d (variable n) h = (h, tt {0})
    images-depth d (operator n ts) h = all_images-depth d ts (omega (arith, h))

    all_images-depth : (d : ℕ) (ts : HolTypes) → types_depth (substitute_all pairs ts) ≤ d
        → AllByRecursion (λ n. type_depth (image pairs n) ≤ d) (variable_places_of_all ts)
    all_images-depth d none h = tt
    all_images-depth d (more t ts) h =
        All-append _ (variable_places t) (variable_places_of_all ts) (images-depth d t (omega (arith, h))) (all_images-depth d ts (omega (arith, h)))

-- what is put for a variable has its type
pub image-typed : (terms : TermPairs) → AreFitting terms → (v : Variable) → HasType (term_image terms v) v.1
image-typed [] h v = refl
image-typed (p ∷ ps) h v = go (variable_eq v p.0) (variable_eq-Decides v p.0).0 (image-typed ps h.1 v)
  where
    go : (b : Bool) → (b ≡ true → v ≡ p.0) → HasType (term_image ps v) v.1
        → HasType (unwrap_or (cond b (Some p.1) (lookup (variable_eq v) ps)) (free v.0 v.1)) v.1
    go true e k = subst (λ (w : Variable). HasType p.1 w.1) (sym (e refl)) h.0
    go false e k = k

module _ (pairs : TypePairs) (terms : TermPairs) (fitting : AreFitting terms) where
  -- so it does in a term after a substitution, up to the types of what is put
  term_images-depth : (d : ℕ) (t : Term) → term_depth (sub pairs terms t) ≤ d
      → AllByRecursion (λ n. type_depth (image pairs n) ≤ 3 * d) (type_variable_places t)
  term_images-depth d (free n t) h = images-depth pairs (3 * d) t
      (HasType-depth d (term_image terms (n, substitute pairs t)) (substitute pairs t) h (image-typed terms fitting (n, substitute pairs t)))
  term_images-depth d (bound k) h = tt
  term_images-depth d (constant n t) h = images-depth pairs (3 * d) t (omega (arith, h))
  term_images-depth d (app f x) h = All-append _ (type_variable_places f) (type_variable_places x) (term_images-depth d f (omega (arith, h)))
      (term_images-depth d x (omega (arith, h)))
  term_images-depth d (lam t b) h = All-append _ (variable_places t) (type_variable_places b) (images-depth pairs (3 * d) t (omega (arith, h)))
      (term_images-depth d b (omega (arith, h)))

  all_term_images-depth : (d : ℕ) (ts : List Term) → AllByRecursion (λ t. term_depth (sub pairs terms t) ≤ d) ts
      → AllByRecursion (λ n. type_depth (image pairs n) ≤ 3 * d) (flat_map type_variable_places ts)
  all_term_images-depth d [] h = tt
  all_term_images-depth d (t ∷ ts) h = All-append _ (type_variable_places t) (flat_map type_variable_places ts) (term_images-depth d t h.0)
      (all_term_images-depth d ts h.1)

  pub type_images-depth : (d : ℕ) (s : Sequent) → AllByRecursion (λ t. term_depth (sub pairs terms t) ≤ d) (terms_of s)
      → AllByRecursion (λ n. type_depth (image pairs n) ≤ 3 * d) (type_variables_of s)
  type_images-depth d s h = All-distinct _ name_eq (flat_map type_variable_places (terms_of s)) (all_term_images-depth d (terms_of s) h)

module _ (pairs : TypePairs) (terms : TermPairs) where
  -- what is put for free variables
  put_terms-depth : (d : ℕ) (t : Term) → term_depth (sub pairs terms t) ≤ d
      → AllByRecursion (λ v. term_depth (term_image terms (v.0, substitute pairs v.1)) ≤ d) (free_places t)
  put_terms-depth d (free n t) h = (h, tt {0})
  put_terms-depth d (bound k) h = tt
  put_terms-depth d (constant n t) h = tt
  put_terms-depth d (app f x) h = All-append _ (free_places f) (free_places x) (put_terms-depth d f (omega (arith, h))) (put_terms-depth d x (omega (arith, h)))
  put_terms-depth d (lam t b) h = put_terms-depth d b (omega (arith, h))

  all_put_terms-depth : (d : ℕ) (ts : List Term) → AllByRecursion (λ t. term_depth (sub pairs terms t) ≤ d) ts
      → AllByRecursion (λ v. term_depth (term_image terms (v.0, substitute pairs v.1)) ≤ d) (flat_map free_places ts)
  all_put_terms-depth d [] h = tt
  all_put_terms-depth d (t ∷ ts) h = All-append _ (free_places t) (flat_map free_places ts) (put_terms-depth d t h.0) (all_put_terms-depth d ts h.1)

  pub term_images_of-depth : (d : ℕ) (s : Sequent) → AllByRecursion (λ t. term_depth (sub pairs terms t) ≤ d) (terms_of s)
      → AllByRecursion (λ v. term_depth (term_image terms (v.0, substitute pairs v.1)) ≤ d) (free_variables_of s)
  term_images_of-depth d s h = All-distinct _ variable_eq (flat_map free_places (terms_of s)) (all_put_terms-depth d (terms_of s) h)

-- a constant that is put is no deeper than its variable
pub constants_put-depth : (pairs : ConstantPairs) (v : Variable) → term_depth (term_image (constants_put pairs) v) ≤ type_depth v.1 + 1
constants_put-depth [] v = omega arith
constants_put-depth (p ∷ ps) v = go (variable_eq v p.1) (variable_eq-Decides v p.1).0 (constants_put-depth ps v)
  where
    go : (b : Bool) → (b ≡ true → v ≡ p.1) → term_depth (term_image (constants_put ps) v) ≤ type_depth v.1 + 1
        → term_depth (unwrap_or (cond b (Some (constant p.0 p.1.1)) (lookup (variable_eq v) (constants_put ps))) (free v.0 v.1)) ≤ type_depth v.1 + 1
    go true e k = let same = ap (λ (w : Variable). type_depth w.1) (e refl) in omega (arith, same)
    go false e k = k
