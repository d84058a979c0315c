-- Laws of renaming: what it keeps of types, terms and sequents.
use Rattle.std.proofs.Common.{◌≡◌, ℕ, suc, ◌+◌, List, [], ◌∷◌, ◌++◌, map, length, Bool, false, Some, refl, sym, ap, ◌∙◌}
use Rattle.std.specs.Prelude.{max}
use Rattle.std.specs.Bool.{Decides}
use Rattle.std.specs.Option.{option_map}
use Rattle.std.specs.List.{AllByRecursion, IsDistinct, flat_map, sum_by}
use Rattle.std.proofs.lemmas.Option.{slice_get-map}
use Rattle.std.proofs.lemmas.Bool.Decides.{same_from_decides}
use Rattle.std.proofs.lemmas.List.Sums.{sum_by-cons}
use Rattle.std.proofs.Math.Path.{ap₂}
use Rattle.std.proofs.lemmas.List.{map-append}
use Rattle.hol_spec.specs.Names.{Name}
use Rattle.hol_spec.specs.Lists.{distinct, IsIn}
use Rattle.hol_laws.specs.ListLaws.{union-map}
use Rattle.hol_spec.specs.Types.{HolType, HolTypes, variable, operator, none, more, count, variable_places, variable_places_of_all}
use Rattle.hol_spec.specs.Primitives.{function}
use Rattle.hol_spec.specs.Terms.{Term, free, bound, constant, app, lam, Variable, type_under, type_variable_places, free_places}
use Rattle.hol_laws.specs.TermLaws.{type_under-app, type_under-lam}
use Rattle.hol_laws.specs.TermSubstitutionLaws.{application_type-is, abstraction_type-is}
use Rattle.hol_spec.specs.Limits.{type_size, types_size, type_depth, types_depth, term_size, term_depth, greatest_by}
use Rattle.hol_laws.specs.Members.{All-left, All-right}
use Rattle.hol_spec.specs.Renamings.{renamed_type, renamed_types, renamed_variable, renamed}

module _ (r : Name → Name) where
  mutual
    pub places-renamed : (t : HolType) → variable_places (renamed_type r t) ≡ map r (variable_places t)
    places-renamed (variable n) = refl
    places-renamed (operator n ts) = places_all-renamed ts

    pub places_all-renamed : (ts : HolTypes) → variable_places_of_all (renamed_types r ts) ≡ map r (variable_places_of_all ts)
    places_all-renamed none = refl
    places_all-renamed (more t ts) = ap₂ (λ a b. a ++ b) (places-renamed t) (places_all-renamed ts) ∙ sym
        (map-append r (variable_places t) (variable_places_of_all ts))

  count-renamed : (ts : HolTypes) → count (renamed_types r ts) ≡ count ts
  count-renamed none = refl
  count-renamed (more t ts) = ap (λ k. k + 1) (count-renamed ts)

  mutual
    pub type_size-renamed : (t : HolType) → type_size (renamed_type r t) ≡ type_size t
    type_size-renamed (variable n) = refl
    type_size-renamed (operator n ts) = ap (λ k. 1 + k) (types_size-renamed ts)

    types_size-renamed : (ts : HolTypes) → types_size (renamed_types r ts) ≡ types_size ts
    types_size-renamed none = refl
    types_size-renamed (more t ts) = ap₂ (λ a b. a + b) (type_size-renamed t) (types_size-renamed ts)

  mutual
    pub type_depth-renamed : (t : HolType) → type_depth (renamed_type r t) ≡ type_depth t
    type_depth-renamed (variable n) = refl
    type_depth-renamed (operator n ts) = ap₂ (λ k d. max 1 k + d) (count-renamed ts) (types_depth-renamed ts)

    types_depth-renamed : (ts : HolTypes) → types_depth (renamed_types r ts) ≡ types_depth ts
    types_depth-renamed none = refl
    types_depth-renamed (more t ts) = ap₂ max (type_depth-renamed t) (types_depth-renamed ts)

module _ (r : Name → Name) (q : Variable → Name) where
  pub type_places-renamed : (t : Term) → type_variable_places (renamed r q t) ≡ map r (type_variable_places t)
  type_places-renamed (free n t) = places-renamed r t
  type_places-renamed (bound k) = refl
  type_places-renamed (constant n t) = places-renamed r t
  type_places-renamed (app f x) = ap₂ (λ a b. a ++ b) (type_places-renamed f) (type_places-renamed x) ∙ sym
      (map-append r (type_variable_places f) (type_variable_places x))
  type_places-renamed (lam t b) = ap₂ (λ a b. a ++ b) (places-renamed r t) (type_places-renamed b) ∙ sym
      (map-append r (variable_places t) (type_variable_places b))

  pub free_places-renamed : (t : Term) → free_places (renamed r q t) ≡ map (renamed_variable r q) (free_places t)
  free_places-renamed (free n t) = refl
  free_places-renamed (bound k) = refl
  free_places-renamed (constant n t) = refl
  free_places-renamed (app f x) = ap₂ (λ a b. a ++ b) (free_places-renamed f) (free_places-renamed x) ∙ sym
      (map-append (renamed_variable r q) (free_places f) (free_places x))
  free_places-renamed (lam t b) = free_places-renamed b

  pub term_size-renamed : (t : Term) → term_size (renamed r q t) ≡ term_size t
  term_size-renamed (free n t) = ap (λ k. 1 + k) (type_size-renamed r t)
  term_size-renamed (bound k) = refl
  term_size-renamed (constant n t) = ap (λ k. 1 + k) (type_size-renamed r t)
  term_size-renamed (app f x) = ap₂ (λ a b. 1 + a + b) (term_size-renamed f) (term_size-renamed x)
  term_size-renamed (lam t b) = ap₂ (λ a b. 1 + a + b) (type_size-renamed r t) (term_size-renamed b)

  pub term_depth-renamed : (t : Term) → term_depth (renamed r q t) ≡ term_depth t
  term_depth-renamed (free n t) = ap (λ k. 1 + k) (type_depth-renamed r t)
  term_depth-renamed (bound k) = refl
  term_depth-renamed (constant n t) = ap (λ k. 1 + k) (type_depth-renamed r t)
  term_depth-renamed (app f x) = ap₂ (λ a b. 1 + max a b) (term_depth-renamed f) (term_depth-renamed x)
  term_depth-renamed (lam t b) = ap₂ (λ a b. 1 + max a b) (type_depth-renamed r t) (term_depth-renamed b)

  -- a renamed term has its type renamed
  pub type_under-renamed : (binders : List HolType) (t : Term) (a : HolType) → type_under binders t ≡ Some a
      → type_under (map (renamed_type r) binders) (renamed r q t) ≡ Some (renamed_type r a)
  type_under-renamed binders (free n c) a e = ap (option_map (renamed_type r)) e
  type_under-renamed binders (bound k) a e = slice_get-map (renamed_type r) binders k ∙ ap (option_map (renamed_type r)) e
  type_under-renamed binders (constant n c) a e = ap (option_map (renamed_type r)) e
  type_under-renamed binders (app f x) a e =
      let p = application_type-is (type_under binders f) (type_under binders x) a e in
      type_under-app (map (renamed_type r) binders) (renamed r q f) (renamed r q x) (renamed_type r p.0) (renamed_type r a)
      (type_under-renamed binders f (function p.0 a) p.1.0) (type_under-renamed binders x p.0 p.1.1)
  type_under-renamed binders (lam c b) a e =
      let p = abstraction_type-is c (type_under (c ∷ binders) b) a e in
      type_under-lam (map (renamed_type r) binders) (renamed_type r c) (renamed r q b) (renamed_type r p.0) (type_under-renamed (c ∷ binders) b p.0 p.1.0)
      ∙ ap (λ u. Some (renamed_type r u)) (sym p.1.1)

-- names that stay apart
module _ (r : Name → Name) (ns : List Name) (one : (m n : Name) → IsIn ns m → IsIn ns n → r m ≡ r n → m ≡ n) where
  mutual
    pub renamed_type-injective : (t u : HolType) → AllByRecursion (IsIn ns) (variable_places t) → AllByRecursion (IsIn ns) (variable_places u)
        → renamed_type r t ≡ renamed_type r u → t ≡ u
    renamed_type-injective (variable m) (variable n) h k e = let f : r m ≡ r n = cc in ap variable (one m n h.0 k.0 f)
    renamed_type-injective (variable m) (operator n us) h k e = absurd (cc)
    renamed_type-injective (operator m ts) (variable n) h k e = absurd (cc)
    renamed_type-injective (operator m ts) (operator n us) h k e =
        let f : m ≡ n = cc in
        let g : renamed_types r ts ≡ renamed_types r us = cc in
        ap₂ operator f (renamed_types-injective ts us h k g)

    pub renamed_types-injective : (ts us : HolTypes) → AllByRecursion (IsIn ns) (variable_places_of_all ts)
        → AllByRecursion (IsIn ns) (variable_places_of_all us) → renamed_types r ts ≡ renamed_types r us → ts ≡ us
    renamed_types-injective none none h k e = refl
    renamed_types-injective none (more u us) h k e = absurd (cc)
    renamed_types-injective (more t ts) none h k e = absurd (cc)
    renamed_types-injective (more t ts) (more u us) h k e =
        let f : renamed_type r t ≡ renamed_type r u = cc in
        let g : renamed_types r ts ≡ renamed_types r us = cc in
        ap₂ more
        (renamed_type-injective t u (All-left (IsIn ns) (variable_places t) (variable_places_of_all ts) h)
        (All-left (IsIn ns) (variable_places u) (variable_places_of_all us) k) f)
        (renamed_types-injective ts us (All-right (IsIn ns) (variable_places t) (variable_places_of_all ts) h)
        (All-right (IsIn ns) (variable_places u) (variable_places_of_all us) k) g)

  module _ (q : Variable → Name) (vs : List Variable)
      (other : (v w : Variable) → IsIn vs v → IsIn vs w → renamed_variable r q v ≡ renamed_variable r q w → v ≡ w) where
    pub renamed-injective : (t u : Term) → AllByRecursion (IsIn ns) (type_variable_places t) → AllByRecursion (IsIn ns) (type_variable_places u)
        → AllByRecursion (IsIn vs) (free_places t) → AllByRecursion (IsIn vs) (free_places u) → renamed r q t ≡ renamed r q u → t ≡ u
    renamed-injective (free m t) (free n u) h k f g e =
        let a : q (m, t) ≡ q (n, u) = cc in
        let b : renamed_type r t ≡ renamed_type r u = cc in
        ap (λ (v : Variable). free v.0 v.1) (other (m, t) (n, u) f.0 g.0 (λ i. (a i, b i)))
    renamed-injective (bound i) (bound j) h k f g e = cc
    renamed-injective (constant m t) (constant n u) h k f g e =
        let a : m ≡ n = cc in
        let b : renamed_type r t ≡ renamed_type r u = cc in
        ap₂ constant a (renamed_type-injective t u h k b)
    renamed-injective (app t x) (app u y) h k f g e =
        let a : renamed r q t ≡ renamed r q u = cc in
        let b : renamed r q x ≡ renamed r q y = cc in
        ap₂ app
        (renamed-injective t u (All-left (IsIn ns) (type_variable_places t) (type_variable_places x) h)
        (All-left (IsIn ns) (type_variable_places u) (type_variable_places y) k) (All-left (IsIn vs) (free_places t) (free_places x) f)
        (All-left (IsIn vs) (free_places u) (free_places y) g) a)
        (renamed-injective x y (All-right (IsIn ns) (type_variable_places t) (type_variable_places x) h)
        (All-right (IsIn ns) (type_variable_places u) (type_variable_places y) k) (All-right (IsIn vs) (free_places t) (free_places x) f)
        (All-right (IsIn vs) (free_places u) (free_places y) g) b)
    renamed-injective (lam t x) (lam u y) h k f g e =
        let a : renamed_type r t ≡ renamed_type r u = cc in
        let b : renamed r q x ≡ renamed r q y = cc in
        ap₂ lam
        (renamed_type-injective t u (All-left (IsIn ns) (variable_places t) (type_variable_places x) h)
        (All-left (IsIn ns) (variable_places u) (type_variable_places y) k) a)
        (renamed-injective x y (All-right (IsIn ns) (variable_places t) (type_variable_places x) h)
        (All-right (IsIn ns) (variable_places u) (type_variable_places y) k) f g b)
    renamed-injective t u h k f g e = absurd (cc)

-- a test says the same of images where the map is one to one
pub agree : {A B : Type 0} (same : A → A → Bool) (eq : B → B → Bool) (decides : (x y : A) → Decides (same x y) (x ≡ y))
    (tells : (x y : B) → Decides (eq x y) (x ≡ y)) (f : A → B) (x y : A)
    → (f x ≡ f y → x ≡ y) → eq (f x) (f y) ≡ same x y
agree same eq decides tells f x y one = same_from_decides (eq (f x) (f y)) (same x y)
    ((λ h. one ((tells (f x) (f y)).0 h)), (λ h. (tells (f x) (f y)).1 (ap f h))) (decides x y)

module _ {A B : Type 0} (f : A → B) (same : A → A → Bool) (eq : B → B → Bool) (P : A → Type 0) (says : (x y : A) → P x → P y → eq (f x) (f y) ≡ same x y) where
  pub distinct-map : (xs : List A) → AllByRecursion P xs → distinct eq (map f xs) ≡ map f (distinct same xs)
  distinct-map xs h = sym (union-map f same eq P says xs [] (tt {0}) h)

  apart-map : (x : A) (xs : List A) → P x → AllByRecursion P xs → AllByRecursion (λ y. same x y ≡ false) xs
      → AllByRecursion (λ y. eq (f x) y ≡ false) (map f xs)
  apart-map x [] p h k = tt
  apart-map x (y ∷ ys) p h k = (says x y p h.0 ∙ k.0, apart-map x ys p h.1 k.1)

  pub IsDistinct-map : (xs : List A) → AllByRecursion P xs → IsDistinct same xs → IsDistinct eq (map f xs)
  unfolding IsDistinct
  IsDistinct-map [] h k = tt
  IsDistinct-map (x ∷ xs) h k = (apart-map x xs h.0 h.1 k.0, IsDistinct-map xs h.1 k.1)

pub flat_map-map : {A B C D : Type 0} (f : A → B) (g : B → List D) (h : A → List C) (k : C → D) (says : (x : A) → g (f x) ≡ map k (h x)) (xs : List A)
    → flat_map g (map f xs) ≡ map k (flat_map h xs)
flat_map-map f g h k says [] = refl
flat_map-map f g h k says (x ∷ xs) = ap₂ (λ a b. a ++ b) (says x) (flat_map-map f g h k says xs) ∙ sym (map-append k (h x) (flat_map h xs))

pub sum_by-map : {A B : Type 0} (f : A → B) (g : B → ℕ) (h : A → ℕ) (says : (x : A) → g (f x) ≡ h x) (xs : List A) → sum_by g (map f xs) ≡ sum_by h xs
sum_by-map f g h says [] = refl
sum_by-map f g h says (x ∷ xs) = sum_by-cons g (f x) (map f xs) ∙ ap₂ (λ a b. a + b) (says x) (sum_by-map f g h says xs) ∙ sym (sum_by-cons h x xs)

pub greatest_by-map : {A B : Type 0} (f : A → B) (g : B → ℕ) (h : A → ℕ) (says : (x : A) → g (f x) ≡ h x) (xs : List A)
    → greatest_by g (map f xs) ≡ greatest_by h xs
greatest_by-map f g h says [] = refl
greatest_by-map f g h says (x ∷ xs) = ap₂ max (says x) (greatest_by-map f g h says xs)

pub length_map : {A B : Type 0} (f : A → B) (xs : List A) → length (map f xs) ≡ length xs
length_map f [] = refl
length_map f (x ∷ xs) = ap suc (length_map f xs)
