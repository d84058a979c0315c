-- The generic type of a constant, with names for its variables.
use Rattle.std.proofs.Common.{◌≡◌, ℕ, zero, suc, ◌≤◌, List, [], ◌∷◌, ◌++◌, map, refl, sym, ap, ◌∙◌, arith}
use Rattle.std.specs.Prelude.{nat_eq}
use Rattle.std.proofs.lemmas.Bool.Decides.{Decides-eqb}
use Rattle.std.proofs.Math.Path.{ap₂}
use Rattle.std.proofs.lemmas.List.{map-append}
use Rattle.hol_spec.specs.Names.{Name}
use Rattle.hol_spec.specs.NameEquality.{name_eq}
use Rattle.hol_laws.specs.NameEqualityLaws.{name_eq-Decides}
use Rattle.hol_spec.specs.Lists.{distinct}
use Rattle.hol_spec.specs.Types.{variable_places, variable_places_of_all, type_variables}
use Rattle.hol_spec.specs.Limits.{type_size, types_size}
use Rattle.hol_spec.specs.ClosedForm.{ClosedType, ClosedTypes}
use Rattle.hol_laws.specs.RenamingLaws.{agree, distinct-map}
use Rattle.hol_laws.specs.Members.{All-each}
use Rattle.translate_spec.specs.ConstantMeaning.{parameter_places, parameter_places_of_all, numbers}
use Rattle.decode_spec.specs.Opened.{AreApart, open_type, open_types}
use Rattle.decode_laws.specs.SizeLaws.{summed, summed-append, summed-distinct}

module _ (named : ℕ → Name) where
  mutual
    places-open : (t : ClosedType) → variable_places (open_type named t) ≡ map named (parameter_places t)
    places-open (ClosedType.parameter i) = refl
    places-open (ClosedType.operator n ts) = places_all-open ts

    places_all-open : (ts : ClosedTypes) → variable_places_of_all (open_types named ts) ≡ map named (parameter_places_of_all ts)
    places_all-open ClosedTypes.none = refl
    places_all-open (ClosedTypes.more t ts) = ap₂ (λ a b. a ++ b) (places-open t) (places_all-open ts) ∙ sym
        (map-append named (parameter_places t) (parameter_places_of_all ts))

  mutual
    places-size : (t : ClosedType) → summed (λ i. 1) (parameter_places t) ≤ type_size (open_type named t)
    places-size (ClosedType.parameter i) = omega arith
    places-size (ClosedType.operator n ts) = omega (arith, places_all-size ts)

    places_all-size : (ts : ClosedTypes) → summed (λ i. 1) (parameter_places_of_all ts) ≤ types_size (open_types named ts)
    places_all-size ClosedTypes.none = omega arith
    places_all-size (ClosedTypes.more t ts) = omega
        (arith, places-size t, places_all-size ts, summed-append (λ (i : ℕ). 1) (parameter_places t) (parameter_places_of_all ts))

  summed-numbers : (i k : ℕ) → summed (λ i. 1) (numbers i k) ≡ k
  summed-numbers i zero = refl
  summed-numbers i (suc k) = omega (arith, summed-numbers (suc i) k)

  -- a generic type whose variables are in order has at least as many nodes as variables
  pub count-size : (t : ClosedType) (k : ℕ) → distinct nat_eq (parameter_places t) ≡ numbers 0 k → k ≤ type_size (open_type named t)
  count-size t k e =
      let a : summed (λ (i : ℕ). 1) (distinct nat_eq (parameter_places t)) ≡ k = ap (summed (λ (i : ℕ). 1)) e ∙ summed-numbers 0 k in
      omega (arith, a, summed-distinct nat_eq (λ (i : ℕ). 1) (parameter_places t), places-size t)

  module _ (apart : AreApart named) where
    -- its type variables are the names of its variables in order
    pub type_variables-open : (t : ClosedType) → type_variables (open_type named t) ≡ map named (distinct nat_eq (parameter_places t))
    type_variables-open t =
        ap (distinct name_eq) (places-open t)
        ∙ distinct-map named nat_eq name_eq (λ (i : ℕ). Unit {0}) (λ i j h k. agree nat_eq name_eq Decides-eqb name_eq-Decides named i j (apart i j))
        (parameter_places t) (All-each (λ (i : ℕ). Unit {0}) (parameter_places t) (λ i h. tt {0}))

    map-apart : (xs ys : List ℕ) → map named xs ≡ map named ys → xs ≡ ys
    map-apart [] [] e = refl
    map-apart [] (y ∷ ys) e = absurd (cc)
    map-apart (x ∷ xs) [] e = absurd (cc)
    map-apart (x ∷ xs) (y ∷ ys) e =
        let f : named x ≡ named y = cc in
        let g : map named xs ≡ map named ys = cc in
        λ i. apart x y f i ∷ map-apart xs ys g i

    -- they are numbered in order exactly where the variables are
    pub numbered-in_order : (t : ClosedType) (k : ℕ) → type_variables (open_type named t) ≡ map named (numbers 0 k)
        → distinct nat_eq (parameter_places t) ≡ numbers 0 k
    numbered-in_order t k e = map-apart (distinct nat_eq (parameter_places t)) (numbers 0 k) (sym (type_variables-open t) ∙ e)

    pub in_order-numbered : (t : ClosedType) (k : ℕ) → distinct nat_eq (parameter_places t) ≡ numbers 0 k
        → type_variables (open_type named t) ≡ map named (numbers 0 k)
    in_order-numbered t k e = type_variables-open t ∙ ap (map named) e
