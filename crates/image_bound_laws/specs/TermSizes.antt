-- Sizes of parts of terms, and of what is put in a substitution.
use Rattle.std.proofs.Common.{◌≡◌, ℕ, ◌+◌, ◌*◌, ◌≤◌, List, [], ◌∷◌, Bool, true, false, cond, Some, refl, ap, arith}
use Rattle.std.specs.Map.{lookup}
use Rattle.std.specs.Option.{unwrap_or}
use Rattle.std.specs.List.{AllByRecursion, flat_map}
use Rattle.hol_spec.specs.NameEquality.{name_eq}
use Rattle.hol_spec.specs.Types.{HolType, HolTypes, variable, operator, none, more, variable_places, variable_places_of_all}
use Rattle.hol_spec.specs.Limits.{type_size, types_size, term_size, sequent_size}
use Rattle.hol_spec.specs.Substitution.{TypePairs, image, substitute, substitute_all}
use Rattle.hol_spec.specs.Terms.{Term, free, bound, constant, app, lam, Variable, variable_eq, type_variable_places, free_places}
use Rattle.hol_spec.specs.TermSubstitution.{TermPairs, term_image, sub, AreFitting}
use Rattle.hol_spec.specs.DefinitionLists.{ConstantPairs, constants_put}
use Rattle.hol_spec.specs.Sequents.{Sequent, terms_of, type_variables_of, free_variables_of}
use Rattle.hol_laws.specs.Members.{All-append}
use Rattle.hol_laws.specs.TermLaws.{variable_eq-Decides}
use Rattle.hol_laws.specs.TermInstances.{substitute-nothing}
use Rattle.translate_spec.specs.Rows.{equated_type, left_side, right_side, argument_type, result_type}
use Rattle.image_bound_laws.specs.FewVariables.{HasType-size}
use Rattle.image_bound_laws.specs.Sums.{sums, sums-is, sums-append, sums-flat_map, sums-distinct}
use Rattle.image_bound_laws.specs.TermMeasures.{All-distinct, image-typed}

-- terms of at most this size
abbrev pub AreSmallTerms : ℕ → List Term → Type 0
AreSmallTerms d ts = AllByRecursion (λ t. term_size t ≤ d) ts

-- the types of free variables lie in the term
free_places-size : (t : Term) (d : ℕ) → term_size t ≤ d → AllByRecursion (λ (v : Variable). type_size v.1 + 1 ≤ d) (free_places t)
free_places-size (free n t) d h = (omega (arith, h), tt {0})
free_places-size (bound k) d h = tt
free_places-size (constant n t) d h = tt
free_places-size (app f x) d h = All-append _ (free_places f) (free_places x) (free_places-size f d (omega (arith, h)))
    (free_places-size x d (omega (arith, h)))
free_places-size (lam t b) d h = free_places-size b d (omega (arith, h))

all_free_places-size : (ts : List Term) (d : ℕ) → AreSmallTerms d ts → AllByRecursion (λ (v : Variable). type_size v.1 + 1 ≤ d) (flat_map free_places ts)
all_free_places-size [] d h = tt
all_free_places-size (t ∷ ts) d h = All-append _ (free_places t) (flat_map free_places ts) (free_places-size t d h.0) (all_free_places-size ts d h.1)

pub free_variables-size : (s : Sequent) (d : ℕ) → AreSmallTerms d (terms_of s) → AllByRecursion (λ (v : Variable). type_size v.1 + 1 ≤ d) (free_variables_of s)
free_variables-size s d h = All-distinct _ variable_eq (flat_map free_places (terms_of s)) (all_free_places-size (terms_of s) d h)

-- the types of the free variables of a sequent all lie in it
abbrev pub variable_size : Variable → ℕ
variable_size v = type_size v.1 + 1

places-size : (t : Term) → sums variable_size (free_places t) ≤ term_size t
places-size (free n t) = omega arith
places-size (bound k) = omega arith
places-size (constant n t) = omega arith
places-size (app f x) =
    let one = places-size f in
    let two = places-size x in
    let both = sums-append variable_size (free_places f) (free_places x) in
    omega (arith, one, two, both)
places-size (lam t b) = let one = places-size b in omega (arith, one)

pub variables-size : (s : Sequent) → sums variable_size (free_variables_of s) ≤ sequent_size s
variables-size s =
    let once = sums-distinct variable_size variable_eq (flat_map free_places (terms_of s)) in
    let all = sums-flat_map variable_size term_size free_places places-size (terms_of s) in
    let same = sums-is term_size (terms_of s) in
    omega (arith, once, all, same)

pub terms-size : (s : Sequent) → sums term_size s.hypotheses + term_size s.conclusion ≡ sequent_size s
terms-size s =
    let both = sums-append term_size s.hypotheses (s.conclusion ∷ []) in
    let same = sums-is term_size (terms_of s) in
    omega (arith, both, same)

-- what is put for the variables of a type lies in what it becomes
module _ (pairs : TypePairs) where
  mutual
    images-size : (d : ℕ) (t : HolType) → type_size (substitute pairs t) ≤ d → AllByRecursion (λ n. type_size (image pairs n) ≤ d) (variable_places t)
    images-size d (variable n) h = (h, tt {0})
    images-size d (operator n ts) h = all_images-size d ts (omega (arith, h))

    all_images-size : (d : ℕ) (ts : HolTypes) → types_size (substitute_all pairs ts) ≤ d
        → AllByRecursion (λ n. type_size (image pairs n) ≤ d) (variable_places_of_all ts)
    all_images-size d none h = tt
    all_images-size d (more t ts) h = All-append _ (variable_places t) (variable_places_of_all ts) (images-size d t (omega (arith, h)))
        (all_images-size d ts (omega (arith, h)))

module _ (pairs : TypePairs) (terms : TermPairs) (fitting : AreFitting terms) where
  -- the type of what is put for a free variable
  pub image_type-size : (d : ℕ) (v : Variable) → term_size (term_image terms (v.0, substitute pairs v.1)) ≤ d → type_size (substitute pairs v.1) ≤ 2 * d
  image_type-size d v h = let l = HasType-size (term_image terms (v.0, substitute pairs v.1)) (substitute pairs v.1)
      (image-typed terms fitting (v.0, substitute pairs v.1)) in omega (arith, l, h)

  term_images-size : (d : ℕ) (t : Term) → term_size (sub pairs terms t) ≤ d → AllByRecursion (λ n. type_size (image pairs n) ≤ 2 * d) (type_variable_places t)
  term_images-size d (free n t) h = images-size pairs (2 * d) t (image_type-size d (n, t) h)
  term_images-size d (bound k) h = tt
  term_images-size d (constant n t) h = images-size pairs (2 * d) t (omega (arith, h))
  term_images-size d (app f x) h = All-append _ (type_variable_places f) (type_variable_places x) (term_images-size d f (omega (arith, h)))
      (term_images-size d x (omega (arith, h)))
  term_images-size d (lam t b) h = All-append _ (variable_places t) (type_variable_places b) (images-size pairs (2 * d) t (omega (arith, h)))
      (term_images-size d b (omega (arith, h)))

  all_term_images-size : (d : ℕ) (ts : List Term) → AllByRecursion (λ t. term_size (sub pairs terms t) ≤ d) ts
      → AllByRecursion (λ n. type_size (image pairs n) ≤ 2 * d) (flat_map type_variable_places ts)
  all_term_images-size d [] h = tt
  all_term_images-size d (t ∷ ts) h = All-append _ (type_variable_places t) (flat_map type_variable_places ts) (term_images-size d t h.0)
      (all_term_images-size d ts h.1)

  pub type_images-size : (d : ℕ) (s : Sequent) → AllByRecursion (λ t. term_size (sub pairs terms t) ≤ d) (terms_of s)
      → AllByRecursion (λ n. type_size (image pairs n) ≤ 2 * d) (type_variables_of s)
  type_images-size d s h = All-distinct _ name_eq (flat_map type_variable_places (terms_of s)) (all_term_images-size d (terms_of s) h)

module _ (pairs : TypePairs) (terms : TermPairs) where
  -- what is put for free variables
  put_terms-size : (d : ℕ) (t : Term) → term_size (sub pairs terms t) ≤ d
      → AllByRecursion (λ v. term_size (term_image terms (v.0, substitute pairs v.1)) ≤ d) (free_places t)
  put_terms-size d (free n t) h = (h, tt {0})
  put_terms-size d (bound k) h = tt
  put_terms-size d (constant n t) h = tt
  put_terms-size d (app f x) h = All-append _ (free_places f) (free_places x) (put_terms-size d f (omega (arith, h))) (put_terms-size d x (omega (arith, h)))
  put_terms-size d (lam t b) h = put_terms-size d b (omega (arith, h))

  all_put_terms-size : (d : ℕ) (ts : List Term) → AllByRecursion (λ t. term_size (sub pairs terms t) ≤ d) ts
      → AllByRecursion (λ v. term_size (term_image terms (v.0, substitute pairs v.1)) ≤ d) (flat_map free_places ts)
  all_put_terms-size d [] h = tt
  all_put_terms-size d (t ∷ ts) h = All-append _ (free_places t) (flat_map free_places ts) (put_terms-size d t h.0) (all_put_terms-size d ts h.1)

  pub term_images_of-size : (d : ℕ) (s : Sequent) → AllByRecursion (λ t. term_size (sub pairs terms t) ≤ d) (terms_of s)
      → AllByRecursion (λ v. term_size (term_image terms (v.0, substitute pairs v.1)) ≤ d) (free_variables_of s)
  term_images_of-size d s h = All-distinct _ variable_eq (flat_map free_places (terms_of s)) (all_put_terms-size d (terms_of s) h)

-- a constant that is put is as large as its variable
pub constants_put-size : (pairs : ConstantPairs) (v : Variable) → term_size (term_image (constants_put pairs) v) ≤ type_size v.1 + 1
constants_put-size [] v = omega arith
constants_put-size (p ∷ ps) v = go (variable_eq v p.1) (variable_eq-Decides v p.1).0 (constants_put-size ps v)
  where
    go : (b : Bool) → (b ≡ true → v ≡ p.1) → term_size (term_image (constants_put ps) v) ≤ type_size v.1 + 1
        → term_size (unwrap_or (cond b (Some (constant p.0 p.1.1)) (lookup (variable_eq v) (constants_put ps))) (free v.0 v.1)) ≤ type_size v.1 + 1
    go true e k = let same = ap (λ (w : Variable). type_size w.1) (e refl) in omega (arith, same)
    go false e k = k

pub constants_sub-size : (pairs : ConstantPairs) (t : Term) → term_size (sub [] (constants_put pairs) t) ≤ term_size t
constants_sub-size pairs (free n t) =
    let l = constants_put-size pairs (n, substitute [] t) in
    let same = ap type_size (substitute-nothing t) in
    omega (arith, l, same)
constants_sub-size pairs (bound k) = omega arith
constants_sub-size pairs (constant n t) = let same = ap type_size (substitute-nothing t) in omega (arith, same)
constants_sub-size pairs (app f x) = let one = constants_sub-size pairs f in let two = constants_sub-size pairs x in omega (arith, one, two)
constants_sub-size pairs (lam t b) = let same = ap type_size (substitute-nothing t) in let one = constants_sub-size pairs b in omega (arith, one, same)

-- parts of terms and of types
pub left_side-size : (t : Term) → term_size (left_side t) ≤ term_size t
left_side-size (app (app e x) y) = omega arith
left_side-size t = omega arith

pub right_side-size : (t : Term) → term_size (right_side t) ≤ term_size t
right_side-size (app (app e x) y) = omega arith
right_side-size t = omega arith

pub equated_type-size : (t : Term) → type_size (equated_type t) ≤ term_size t
equated_type-size (app (app (constant n (operator f (more a ts))) x) y) = omega arith
equated_type-size (free n t) = omega arith
equated_type-size (bound k) = omega arith
equated_type-size (constant n t) = omega arith
equated_type-size (lam t b) = omega arith
equated_type-size t = omega arith

pub argument_type-size : (t : HolType) → type_size (argument_type t) ≤ type_size t
argument_type-size (operator n (more a ts)) = omega arith
argument_type-size t = omega arith

pub result_type-size : (t : HolType) → type_size (result_type t) ≤ type_size t
result_type-size (operator n (more a (more b ts))) = omega arith
result_type-size t = omega arith
