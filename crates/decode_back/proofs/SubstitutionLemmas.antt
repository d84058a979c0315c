-- An instance of a generic type: types put for the names of its variables.
use Rattle.std.proofs.Common.{◌≡◌, ℕ, zero, suc, ◌+◌, ◌<◌, inl, inr, Bool, true, false, cond, Some, refl, ap, subst, arith}
use Rattle.std.specs.Prelude.{nat_eq}
use Rattle.std.specs.Option.{unwrap_or}
use Rattle.std.specs.Map.{lookup}
use Rattle.std.specs.List.{AllByRecursion}
use Rattle.std.proofs.Math.Path.{ap₂}
use Rattle.std.proofs.lemmas.Bool.Decides.{Decides-eqb}
use Rattle.hol_spec.specs.NameEquality.{name_eq}
use Rattle.hol_laws.specs.NameEqualityLaws.{name_eq-Decides}
use Rattle.hol_spec.specs.Lists.{IsIn, distinct}
use Rattle.hol_laws.specs.Members.{All-each, All-left, All-right, IsIn-distinct}
use Rattle.hol_spec.specs.Types as type
use Rattle.hol_spec.specs.Types.{variable}
use Rattle.hol_spec.specs.Substitution.{image, substitute, substitute_all}
use Rattle.hol_spec.specs.ClosedForm.{ClosedType, ClosedTypes}
use Rattle.translate_spec.specs.ConstantMeaning.{argument, instance_of, instances_of, parameter_places, parameter_places_of_all, numbers}
use Rattle.decode_spec.specs.Opened.{open_type, open_types}
use Rattle.decode_spec.specs.Decode.{closed_count}
use Rattle.decode_back.specs.Walks.{parameter_name}
use Rattle.decode_back.specs.TermWalks.{named_types}
use Rattle.decode_back.proofs.NameLemmas.{parameter_name-apart}

-- the type that a number's name has among the named types
lookup-named : (types : ClosedTypes) (i j : ℕ) → i < closed_count types → lookup (name_eq (parameter_name (j + i))) (named_types j types)
    ≡ Some (open_type parameter_name (argument types i))
lookup-named ClosedTypes.none i j l = absurd (omega (arith, l))
lookup-named (ClosedTypes.more t ts) zero j l =
    let z : parameter_name (j + 0) ≡ parameter_name j = ap parameter_name (omega arith) in
    let e : name_eq (parameter_name (j + 0)) (parameter_name j) ≡ true = (name_eq-Decides (parameter_name (j + 0)) (parameter_name j)).1 z in
    ap (λ b. cond b (Some (open_type parameter_name t)) (lookup (name_eq (parameter_name (j + 0))) (named_types (suc j) ts))) e
lookup-named (ClosedTypes.more t ts) (suc i) j l =
    let z : suc j + i ≡ j + suc i = omega arith in
    go (subst (λ k. lookup (name_eq (parameter_name k)) (named_types (suc j) ts) ≡ Some (open_type parameter_name (argument ts i))) z
    (lookup-named ts i (suc j) (omega (arith, l))))
    (name_eq (parameter_name (j + suc i)) (parameter_name j)) refl
  where
    go : lookup (name_eq (parameter_name (j + suc i))) (named_types (suc j) ts) ≡ Some (open_type parameter_name (argument ts i)) → (b : Bool)
        → name_eq (parameter_name (j + suc i)) (parameter_name j) ≡ b
        → cond b (Some (open_type parameter_name t)) (lookup (name_eq (parameter_name (j + suc i))) (named_types (suc j) ts))
        ≡ Some (open_type parameter_name (argument ts i))
    go later true e = let f : j + suc i ≡ j = parameter_name-apart (j + suc i) j ((name_eq-Decides (parameter_name (j + suc i)) (parameter_name j)).0 e) in
        absurd (omega (arith, f))
    go later false e = later

image-named : (types : ClosedTypes) (i : ℕ) → i < closed_count types → image (named_types 0 types) (parameter_name i)
    ≡ open_type parameter_name (argument types i)
image-named types i l =
    let z : 0 + i ≡ i = omega arith in
    ap (λ o. unwrap_or o (variable (parameter_name i)))
    (subst (λ k. lookup (name_eq (parameter_name k)) (named_types 0 types) ≡ Some (open_type parameter_name (argument types i))) z
    (lookup-named types i 0 l))

mutual
  substitute-open : (types : ClosedTypes) (t : ClosedType) → AllByRecursion (λ i. i < closed_count types) (parameter_places t)
      → substitute (named_types 0 types) (open_type parameter_name t) ≡ open_type parameter_name (instance_of types t)
  substitute-open types (ClosedType.parameter i) h = image-named types i h.0
  substitute-open types (ClosedType.operator n ts) h = ap (type.HolType.operator n) (substitute_all-open types ts h)

  substitute_all-open : (types ts : ClosedTypes) → AllByRecursion (λ i. i < closed_count types) (parameter_places_of_all ts)
      → substitute_all (named_types 0 types) (open_types parameter_name ts) ≡ open_types parameter_name (instances_of types ts)
  substitute_all-open types ClosedTypes.none h = refl
  substitute_all-open types (ClosedTypes.more t ts) h =
      ap₂ type.HolTypes.more (substitute-open types t (All-left (λ i. i < closed_count types) (parameter_places t) (parameter_places_of_all ts) h))
      (substitute_all-open types ts (All-right (λ i. i < closed_count types) (parameter_places t) (parameter_places_of_all ts) h))

below : (j k i : ℕ) → IsIn (numbers j k) i → i < j + k
below j zero i h = absurd h
below j (suc k) i (inl e) = omega (arith, e)
below j (suc k) i (inr h) = omega (arith, below (suc j) k i h)

-- the generic type with types for its variables, where these are numbered in order, is the instance
pub instance-open : (types : ClosedTypes) (t : ClosedType) (k : ℕ) → distinct nat_eq (parameter_places t) ≡ numbers 0 k → k ≡ closed_count types
    → substitute (named_types 0 types) (open_type parameter_name t) ≡ open_type parameter_name (instance_of types t)
instance-open types t k e c =
    substitute-open types t (All-each (λ i. i < closed_count types) (parameter_places t)
    (λ i h. let l : i < 0 + k = below 0 k i (subst (λ ns. IsIn ns i) e (IsIn-distinct nat_eq Decides-eqb (parameter_places t) i h)) in omega (arith, l, c)))
