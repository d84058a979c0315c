-- The types of equality and of choice, by their parts.
use Rattle.std.proofs.Common.{◌≡◌, refl, ap, sym, ◌∙◌, Bool, true, false, Option, None, Some}
use Rattle.hol_spec.specs.NameEquality.{name_eq}
use Rattle.hol_laws.specs.NameEqualityLaws.{name_eq-Decides}
use Rattle.hol_spec.specs.Types.{HolType, variable, operator, none, more}
use Rattle.hol_spec.specs.Primitives.{arrow_name, function, function_parts, bool}
use Rattle.hol_defs.specs.Generics.{IsEqualityType, IsSelectType}
use Rattle.std.proofs.lemmas.Option.{same_Some}

-- the parts of equal pairs are equal
first_is : {a b c d : HolType} → ◌≡◌ {A = Option (HolType × HolType)} (Some (a, b)) (Some (c, d)) → a ≡ c
first_is e = ap (λ (p : HolType × HolType). p.0) (same_Some _ _ e)

second_is : {a b c d : HolType} → ◌≡◌ {A = Option (HolType × HolType)} (Some (a, b)) (Some (c, d)) → b ≡ d
second_is e = ap (λ (p : HolType × HolType). p.1) (same_Some _ _ e)

-- a type with these parts is the type of functions from one to the other
pub function_of_parts : (t a b : HolType) → Some (a, b) ≡ function_parts t → t ≡ function a b
function_of_parts (variable n) a b e = absurd (cc)
function_of_parts (operator n none) a b e = absurd (cc)
function_of_parts (operator n (more x none)) a b e = absurd (cc)
function_of_parts (operator n (more x (more y none))) a b e = go (name_eq n arrow_name) refl
  where
    go : (v : Bool) → name_eq n arrow_name ≡ v → operator n (more x (more y none)) ≡ function a b
    go true h =
        let s : ◌≡◌ {A = Option (HolType × HolType)} (Some (a, b)) (Some (x, y)) = e ∙ rw h refl in
        let m : n ≡ arrow_name = (name_eq-Decides n arrow_name).0 h in
        let f = first_is s in
        let g = second_is s in
        cc
    go false h =
        let s : ◌≡◌ {A = Option (HolType × HolType)} (Some (a, b)) None = e ∙ rw h refl in
        absurd (cc)
function_of_parts (operator n (more x (more y (more z ts)))) a b e = absurd (cc)

-- the relations over one type
pub equality_parts : (t l r s v : HolType) → Some (l, r) ≡ function_parts t → Some (s, v) ≡ function_parts r → IsEqualityType t → (v ≡ bool) × (l ≡ s)
equality_parts t l r s v p q k =
    let a : ◌≡◌ {A = Option (HolType × HolType)} (Some (l, r)) (Some (k.0, function k.0 bool)) = p ∙ ap function_parts k.1 in
    let f : r ≡ function k.0 bool = second_is a in
    let b : ◌≡◌ {A = Option (HolType × HolType)} (Some (s, v)) (Some (k.0, bool)) = q ∙ ap function_parts f in
    (second_is b, first_is a ∙ sym (first_is b))

pub equality_made : (t l r s v : HolType) → Some (l, r) ≡ function_parts t → Some (s, v) ≡ function_parts r → v ≡ bool → l ≡ s → IsEqualityType t
equality_made t l r s v p q h k =
    let f = function_of_parts t l r p in
    let g = function_of_parts r s v q in
    (s, cc)

-- the choices from one type
pub select_parts : (t l r s v : HolType) → Some (l, r) ≡ function_parts t → Some (s, v) ≡ function_parts l → IsSelectType t → (v ≡ bool) × (s ≡ r)
select_parts t l r s v p q k =
    let a : ◌≡◌ {A = Option (HolType × HolType)} (Some (l, r)) (Some (function k.0 bool, k.0)) = p ∙ ap function_parts k.1 in
    let f : l ≡ function k.0 bool = first_is a in
    let b : ◌≡◌ {A = Option (HolType × HolType)} (Some (s, v)) (Some (k.0, bool)) = q ∙ ap function_parts f in
    (second_is b, first_is b ∙ sym (second_is a))

pub select_made : (t l r s v : HolType) → Some (l, r) ≡ function_parts t → Some (s, v) ≡ function_parts l → v ≡ bool → s ≡ r → IsSelectType t
select_made t l r s v p q h k =
    let f = function_of_parts t l r p in
    let g = function_of_parts l s v q in
    (r, cc)
