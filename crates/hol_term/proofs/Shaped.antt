-- Equations and redexes, found by their parts.
use Rattle.std.proofs.Common.{◌≡◌, refl, sym, ap, ◌∙◌, Bool, true, false, cond, Option, Some, None, List}
use Rattle.std.specs.Option.{option_map}
use Rattle.std.proofs.Math.Path.{ap₂}
use Rattle.hol_spec.specs.NameEquality.{name_eq}
use Rattle.hol_laws.specs.NameEqualityLaws.{name_eq-Decides}
use Rattle.hol_spec.specs.Names.{Name}
use Rattle.hol_spec.specs.Types.{HolType, variable, operator, none, more}
use Rattle.hol_spec.specs.Primitives.{bool, function, function_parts, arrow_name, equality_type}
use Rattle.hol_type.specs.declared.table.TypeId.{TypeId}
use Rattle.hol_type.specs.Tables.{tree_at, two_at}
use Rattle.hol_term.specs.Shapes.{IsRelation}

from_test : (b : Bool) (n : Name) (p q : HolType × HolType) → (b ≡ true → n ≡ arrow_name) → cond b (Some p) None ≡ Some q → (n ≡ arrow_name) × (p ≡ q)
from_test true n p q f e = (f refl, value e)
  where
    or_first : Option (HolType × HolType) → HolType × HolType
    or_first None = p
    or_first (Some x) = x

    value : Some p ≡ Some q → p ≡ q
    value e = ap or_first e
from_test false n p q f e = absurd (cc)

-- what has the parts of a function type is one
pub function_parts-Some : (t a b : HolType) → function_parts t ≡ Some (a, b) → t ≡ function a b
function_parts-Some (variable n) a b e = absurd (cc)
function_parts-Some (operator n none) a b e = absurd (cc)
function_parts-Some (operator n (more x none)) a b e = absurd (cc)
function_parts-Some (operator n (more x (more y none))) a b e =
    let w = from_test (name_eq n arrow_name) n (x, y) (a, b) (name_eq-Decides n arrow_name).0 e in
    ap₂ (λ m (p : HolType × HolType). operator m (more p.0 (more p.1 none))) w.0 w.1
function_parts-Some (operator n (more x (more y (more z ts)))) a b e = absurd (cc)

first_of_pair : {p q : HolType × HolType} → Some p ≡ Some q → p ≡ q
first_of_pair {p = p} e = ap (λ o. or_else p o) e
  where
    or_else : HolType × HolType → Option (HolType × HolType) → HolType × HolType
    or_else d None = d
    or_else d (Some x) = x

none_some : {X : Type 0} (x : X) → None ≡ Some x → ⊥
none_some x e = cc

module _ (types : List HolType) (ty : TypeId) where
  pub not_relation : option_map (two_at types) None ≡ function_parts (tree_at types ty.0) → IsRelation (tree_at types ty.0) → ⊥
  not_relation e r = none_some (r.0, function r.0 bool) (e ∙ ap function_parts r.1)

  module _ (d p : TypeId) (parts : option_map (two_at types) (Some (d, p)) ≡ function_parts (tree_at types ty.0)) where
    both : (r : IsRelation (tree_at types ty.0)) → ◌≡◌ {A = HolType × HolType} (tree_at types d.0, tree_at types p.0) (r.0, function r.0 bool)
    both r = first_of_pair (parts ∙ ap function_parts r.1)

    -- relations whose type has this domain are over it
    pub relation_over : IsRelation (tree_at types ty.0) → tree_at types ty.0 ≡ equality_type (tree_at types d.0)
    relation_over r = r.1 ∙ ap equality_type (sym (ap (λ (x : HolType × HolType). x.0) (both r)))

    pub not_relation_below : option_map (two_at types) None ≡ function_parts (tree_at types p.0) → IsRelation (tree_at types ty.0) → ⊥
    not_relation_below e r = none_some (r.0, bool) (e ∙ ap function_parts (ap (λ (x : HolType × HolType). x.1) (both r)))

    module _ (s t : TypeId) (below : option_map (two_at types) (Some (s, t)) ≡ function_parts (tree_at types p.0)) where
      inner : (r : IsRelation (tree_at types ty.0)) → ◌≡◌ {A = HolType × HolType} (tree_at types s.0, tree_at types t.0) (r.0, bool)
      inner r = first_of_pair (below ∙ ap function_parts (ap (λ (x : HolType × HolType). x.1) (both r)))

      pub relation_alike : IsRelation (tree_at types ty.0) → tree_at types d.0 ≡ tree_at types s.0
      relation_alike r = ap (λ (x : HolType × HolType). x.0) (both r) ∙ sym (ap (λ (x : HolType × HolType). x.0) (inner r))

      pub relation_bool : IsRelation (tree_at types ty.0) → tree_at types t.0 ≡ bool
      relation_bool r = ap (λ (x : HolType × HolType). x.1) (inner r)

      pub is_relation : d.0 ≡ s.0 → tree_at types t.0 ≡ bool → IsRelation (tree_at types ty.0)
      is_relation e b = (
        tree_at types d.0,
        function_parts-Some (tree_at types ty.0) (tree_at types d.0) (tree_at types p.0) (sym parts)
            ∙ ap (function (tree_at types d.0)) (function_parts-Some (tree_at types p.0) (tree_at types s.0) (tree_at types t.0) (sym below)
            ∙ ap₂ function (ap (tree_at types) (sym e)) b),
      )
