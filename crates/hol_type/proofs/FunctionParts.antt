-- Types that are not of functions, or not that of truth values.
use Rattle.std.proofs.Common.{◌≡◌, refl, arith, List, [], ◌∷◌, length, Some, None, get_or, Bool, true, false}
use Rattle.hol_spec.specs.Names.{Name}
use Rattle.hol_spec.specs.NameEquality.{name_eq}
use Rattle.hol_laws.specs.NameEqualityLaws.{name_eq-Decides}
use Rattle.hol_spec.specs.Types.{HolType, operator, types_of}
use Rattle.hol_spec.specs.Primitives.{arrow_name, bool, function_parts}
use Rattle.hol_type.specs.declared.table.TypeId.{TypeId}
use Rattle.hol_type.specs.Tables.{types_at, two_at}

-- an operator over another number of arguments than two
pub function_parts-count : (trees : List HolType) (n : Name) (args : List TypeId) → (length args ≡ 2 → ⊥)
    → function_parts (operator n (types_of (types_at trees args))) ≡ None
function_parts-count trees n [] h = refl
function_parts-count trees n (a ∷ []) h = refl
function_parts-count trees n (a ∷ b ∷ []) h = absurd (h refl)
function_parts-count trees n (a ∷ b ∷ c ∷ args) h = refl

-- an operator of another name
pub function_parts-other : (trees : List HolType) (n : Name) (args : List TypeId) → (n ≡ arrow_name → ⊥)
    → function_parts (operator n (types_of (types_at trees args))) ≡ None
function_parts-other trees n [] h = refl
function_parts-other trees n (a ∷ []) h = refl
function_parts-other trees n (a ∷ b ∷ []) h = go (name_eq n arrow_name) refl
  where
    go : (v : Bool) → name_eq n arrow_name ≡ v → function_parts (operator n (types_of (types_at trees (a ∷ b ∷ [])))) ≡ None
    go true e = absurd (h ((name_eq-Decides n arrow_name).0 e))
    go false e = rw e refl
function_parts-other trees n (a ∷ b ∷ c ∷ args) h = refl

-- an operator of that name over two arguments
pub function_parts-two : (trees : List HolType) (n : Name) (args : List TypeId) (d e : TypeId) → n ≡ arrow_name → length args ≡ 2
    → function_parts (operator n (types_of (types_at trees args))) ≡ Some (two_at trees (get_or args 0 d, get_or args 1 e))
function_parts-two trees n [] d e h k = absurd (omega (arith, k))
function_parts-two trees n (a ∷ []) d e h k = absurd (omega (arith, k))
function_parts-two trees n (a ∷ b ∷ []) d e h k = rw ((name_eq-Decides n arrow_name).1 h) refl
function_parts-two trees n (a ∷ b ∷ c ∷ args) d e h k = absurd (omega (arith, k))

-- an operator over arguments isn't the type of truth values
pub arguments-not_bool : (trees : List HolType) (n : Name) (args : List TypeId) → (length args ≡ 0 → ⊥) → operator n (types_of (types_at trees args)) ≡ bool → ⊥
arguments-not_bool trees n [] h e = h refl
arguments-not_bool trees n (a ∷ args) h e = cc
