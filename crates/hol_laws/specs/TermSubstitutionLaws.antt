-- Laws of substitution in terms: where each term that is put has its variable's type, a typed term stays typed.
use Rattle.std.proofs.Common.{◌≡◌, List, [], ◌∷◌, ◌++◌, map, length, Bool, true, false, cond, Option, Some, None, refl, sym, ap, ◌∙◌}
use Rattle.std.specs.Option.{option_map, unwrap_or}
use Rattle.std.specs.Map.{lookup}
use Rattle.std.proofs.lemmas.List.{append-nil}
use Rattle.std.proofs.lemmas.Option.{slice_get-map}
use Rattle.hol_spec.specs.NameEquality.{name_eq}
use Rattle.hol_laws.specs.NameEqualityLaws.{name_eq-Decides}
use Rattle.hol_spec.specs.Types.{HolType, variable, operator, none, more, type_eq}
use Rattle.hol_laws.specs.TypeLaws.{type_eq-Decides}
use Rattle.hol_spec.specs.Primitives.{function, function_parts, arrow_name}
use Rattle.hol_spec.specs.Substitution.{TypePairs, substitute}
use Rattle.hol_spec.specs.Terms.{Term, free, bound, constant, app, lam, Variable, variable_eq, type_under, HasType, result_type, application_type}
use Rattle.hol_laws.specs.TermLaws.{variable_eq-Decides, type_under-app, type_under-lam}
use Rattle.hol_laws.specs.TermClosed.{lift_at-closed}
use Rattle.hol_laws.specs.TermTyping.{type_under-lift_at, loose-typed}
use Rattle.hol_spec.specs.TermSubstitution.{TermPairs, term_image, sub, AreFitting}
use Rattle.hol_spec.specs.BindingStatements.{TypeOfSubstitution}

-- A term has its type under any binders.
pub type_under-any : (binders : List HolType) (u : Term) (a : HolType) → HasType u a → type_under binders u ≡ Some a
type_under-any binders u a h =
    ap (λ l. type_under l u) (sym (append-nil binders))
    ∙ ap (type_under (binders ++ [])) (sym (lift_at-closed 0 (length binders) u (loose-typed [] u a h)))
    ∙ type_under-lift_at [] binders [] u
    ∙ h

image_of : (b : Bool) (binders : List HolType) (v w : Variable) (u : Term) (rest : Option Term) → (b ≡ true → v ≡ w) → HasType u w.1
    → type_under binders (unwrap_or rest (free v.0 v.1)) ≡ Some v.1 → type_under binders (unwrap_or (cond b (Some u) rest) (free v.0 v.1)) ≡ Some v.1
image_of true binders v w u rest e h r = type_under-any binders u w.1 h ∙ ap (λ (x : Variable). Some x.1) (sym (e refl))
image_of false binders v w u rest e h r = r

-- What stands for a variable has the variable's type.
pub type_under-term_image : (binders : List HolType) (terms : TermPairs) (v : Variable) → AreFitting terms → type_under binders (term_image terms v) ≡ Some v.1
type_under-term_image binders [] v f = refl
type_under-term_image binders (p ∷ ps) v f =
    image_of (variable_eq v p.0) binders v p.0 p.1 (lookup (variable_eq v) ps) (variable_eq-Decides v p.0).0 f.0 (type_under-term_image binders ps v f.1)

-- A type with parts of a function's type is that function's type.
pub function_parts-is : (t a b : HolType) → function_parts t ≡ Some (a, b) → t ≡ function a b
function_parts-is (variable n) a b e = absurd (cc)
function_parts-is (operator n none) a b e = absurd (cc)
function_parts-is (operator n (more c none)) a b e = absurd (cc)
function_parts-is (operator n (more c (more d none))) a b e = go (name_eq n arrow_name) (name_eq-Decides n arrow_name).0 e
  where
    first : Option (HolType × HolType) → HolType
    first None = c
    first (Some p) = p.0

    second : Option (HolType × HolType) → HolType
    second None = d
    second (Some p) = p.1

    go : (x : Bool) → (x ≡ true → n ≡ arrow_name) → cond {A = Option (HolType × HolType)} x (Some (c, d)) None ≡ Some (a, b) → operator n (more c (more d none))
        ≡ function a b
    go true named same = let m = named refl in let p : c ≡ a = ap first same in let q : d ≡ b =
        ap second same in λ i. operator (m i) (more (p i) (more (q i) none))
    go false named same = absurd (cc)
function_parts-is (operator n (more c (more d (more g ts)))) a b e = absurd (cc)

result_type-is : (parts : Option (HolType × HolType)) (q b : HolType) → result_type parts q ≡ Some b → parts ≡ Some (q, b)
result_type-is None q b e = absurd (cc)
result_type-is (Some p) q b e = go (type_eq p.0 q) (type_eq-Decides p.0 q).0 e
  where
    or_else : Option HolType → HolType
    or_else None = p.1
    or_else (Some r) = r

    go : (x : Bool) → (x ≡ true → p.0 ≡ q) → cond x (Some p.1) None ≡ Some b → Some p ≡ Some (q, b)
    go true same e = let m = same refl in let r : p.1 ≡ b = ap or_else e in λ i. Some (m i, r i)
    go false same e = absurd (cc)

-- An application that has a type is of a function from its argument's type.
pub application_type-is : (f x : Option HolType) (b : HolType) → application_type f x ≡ Some b → (a : HolType) × ((f ≡ Some (function a b)) × (x ≡ Some a))
application_type-is None x b e = absurd (cc)
application_type-is (Some p) None b e = absurd (cc)
application_type-is (Some p) (Some q) b e = (q, (ap Some (function_parts-is p q b (result_type-is (function_parts p) q b e)), refl))

-- An abstraction that has a type has that of functions from its variable's type to its body's.
pub abstraction_type-is : (c : HolType) (t : Option HolType) (a : HolType) → option_map (function c) t ≡ Some a
    → (d : HolType) × ((t ≡ Some d) × (a ≡ function c d))
abstraction_type-is c None a e = absurd (cc)
abstraction_type-is c (Some d) a e = (d, (refl, is (sym e)))
  where
    or_else : Option HolType → HolType
    or_else None = a
    or_else (Some r) = r

    is : Some a ≡ Some (function c d) → a ≡ function c d
    is e = ap or_else e

-- The law of substitution: under binders whose types are put too, a typed term has its type with the types put.
pub type_under-sub : (types : TypePairs) (terms : TermPairs) → AreFitting terms → (binders : List HolType) (t : Term) (a : HolType)
    → type_under binders t ≡ Some a → type_under (map (substitute types) binders) (sub types terms t) ≡ Some (substitute types a)
type_under-sub types terms f binders (free n c) a e =
    type_under-term_image (map (substitute types) binders) terms (n, substitute types c) f ∙ ap (option_map (substitute types)) e
type_under-sub types terms f binders (bound k) a e = slice_get-map (substitute types) binders k ∙ ap (option_map (substitute types)) e
type_under-sub types terms f binders (constant n c) a e = ap (option_map (substitute types)) e
type_under-sub types terms f binders (app g x) a e =
    let p = application_type-is (type_under binders g) (type_under binders x) a e in
    type_under-app (map (substitute types) binders) (sub types terms g) (sub types terms x) (substitute types p.0) (substitute types a)
    (type_under-sub types terms f binders g (function p.0 a) p.1.0) (type_under-sub types terms f binders x p.0 p.1.1)
type_under-sub types terms f binders (lam c b) a e =
    let p = abstraction_type-is c (type_under (c ∷ binders) b) a e in
    type_under-lam (map (substitute types) binders) (substitute types c) (sub types terms b) (substitute types p.0)
    (type_under-sub types terms f (c ∷ binders) b p.0 p.1.0) ∙ ap (λ r. Some (substitute types r)) (sym p.1.1)

pub type_of-sub : TypeOfSubstitution
type_of-sub types terms t a f h = type_under-sub types terms f [] t a h
