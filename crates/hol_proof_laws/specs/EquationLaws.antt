-- Laws of equations: a term that is taken apart as one is one, and its sides have its type.
use Rattle.std.proofs.Common.{◌≡◌, List, [], Bool, true, false, cond, Option, None, Some, refl, sym, ap, subst, ◌∙◌}
use Rattle.std.proofs.lemmas.Option.{same_Some}
use Rattle.hol_spec.specs.NameEquality.{name_eq}
use Rattle.hol_laws.specs.NameEqualityLaws.{name_eq-Decides}
use Rattle.hol_spec.specs.Types.{HolType, type_eq, operator, more}
use Rattle.hol_laws.specs.TypeLaws.{type_eq-Decides}
use Rattle.hol_spec.specs.Primitives.{bool, function, function_parts, equality_name, equality_type}
use Rattle.hol_spec.specs.Terms.{Term, constant, app, type_under, HasType, equation}
use Rattle.hol_laws.specs.TermLaws.{type_under-app}
use Rattle.hol_laws.specs.TermSubstitutionLaws.{application_type-is}
use Rattle.hol_spec.specs.Equations.{Equation, equation_parts, equation_at}

abbrev pub first_argument : HolType → HolType
first_argument (operator n (more a ts)) = a
first_argument t = t

abbrev pub second_argument : HolType → HolType
second_argument (operator n (more a (more b ts))) = b
second_argument t = t

-- the sides of a typed equation have its type
pub record SidesOf (a : HolType) (x y : Term) : Type 0 where
  pub left : HasType x a
  pub right : HasType y a

pub equation-sides : (a : HolType) (x y t : Term) → t ≡ equation a x y → HasType t bool → SidesOf a x y
equation-sides a x y t is typed =
    let h : HasType (equation a x y) bool = subst (λ u. HasType u bool) is typed in
    let p = application_type-is (type_under [] (app (constant equality_name (equality_type a)) x)) (type_under [] y) bool h in
    let q = application_type-is (type_under [] (constant equality_name (equality_type a))) (type_under [] x) (function p.0 bool) p.1.0 in
    let e : equality_type a ≡ function q.0 (function p.0 bool) = same_Some _ _ q.1.0 in
    let first : a ≡ q.0 = ap first_argument e in
    let second : a ≡ p.0 = ap (λ t. first_argument (second_argument t)) e in
    record { left = q.1.1 ∙ ap Some (sym first); right = p.1.1 ∙ ap Some (sym second) }

-- under binders, an equation of two terms of one type is a truth value
pub type_under-equation : (binders : List HolType) (a : HolType) (x y : Term) → type_under binders x ≡ Some a → type_under binders y ≡ Some a
    → type_under binders (equation a x y) ≡ Some bool
type_under-equation binders a x y p q =
    type_under-app binders (app (constant equality_name (equality_type a)) x) y a bool
    (type_under-app binders (constant equality_name (equality_type a)) x a (function a bool) refl p) q

abbrev tree_of : Equation → Term
tree_of e = equation e.ty e.left e.right

-- what is taken apart is put together again
equation_at-is : (c : HolType) (parts : Option (HolType × HolType)) (x y : Term) (e : Equation) → equation_at c parts x y ≡ Some e
    → app (app (constant equality_name c) x) y ≡ tree_of e
equation_at-is c None x y e h = absurd (cc)
equation_at-is c (Some parts) x y e h = go (type_eq c (equality_type parts.0)) (type_eq-Decides c (equality_type parts.0)).0 h
  where
    go : (b : Bool) → (b ≡ true → c ≡ equality_type parts.0) → cond b (Some (record { ty = parts.0; left = x; right = y })) None ≡ Some e
        → app (app (constant equality_name c) x) y ≡ tree_of e
    go true f h = ap (λ d. app (app (constant equality_name d) x) y) (f refl) ∙ ap tree_of (same_Some _ _ h)
    go false f h = absurd (cc)

pub equation_parts-is : (t : Term) (e : Equation) → equation_parts t ≡ Some e → t ≡ equation e.ty e.left e.right
equation_parts-is (app (app (constant n c) x) y) e h = go (name_eq n equality_name) (name_eq-Decides n equality_name).0 h
  where
    go : (b : Bool) → (b ≡ true → n ≡ equality_name) → cond b (equation_at c (function_parts c) x y) None ≡ Some e → app (app (constant n c) x) y ≡ tree_of e
    go true f h = ap (λ m. app (app (constant m c) x) y) (f refl) ∙ equation_at-is c (function_parts c) x y e h
    go false f h = absurd (cc)
equation_parts-is t e h = absurd (cc)
