-- What is left to be compared where one type or term is matched with another: pairs of numbers, a general one and its own.
use Rattle.std.specs.Prelude.{◌≡◌, ℕ, ◌+◌, ◌<◌, Bool, true, ◌&&◌, List, [], ◌∷◌, length}
use Rattle.hol_spec.specs.Limits.{type_size, term_size}
use Rattle.hol_spec.specs.NameEquality.{name_eq}
use Rattle.hol_spec.specs.Names.{Name}
use Rattle.hol_spec.specs.Substitution.{TypePairs, substitute, substitute_all}
use Rattle.hol_spec.specs.Terms.{term_eq}
use Rattle.hol_spec.specs.Types.{HolType, type_eq, types_eq, types_of}
use Rattle.hol_type.specs.declared.table.TypeId.{TypeId}
use Rattle.hol_type.specs.Tables.{pairs_at, tree_at, types_at}
use Rattle.hol_term.specs.declared.TermId.{TermId}
use Rattle.hol_term.specs.Tables.{Trees, term_at}
use Rattle.hol_rules.specs.declared.made.Substitution.{Substitution}
use Rattle.translate_proof.specs.declared.matching.Named.{Named}
use Rattle.translate_proof.specs.Images.{made_term}

-- whether the pairs of a substitution make each type of its general one
abbrev pub are_types_made : List HolType → TypePairs → List (TypeId × TypeId) → Bool
are_types_made types ps [] = true
are_types_made types ps (p ∷ left) = type_eq (substitute ps (tree_at types p.0.0)) (tree_at types p.1.0) && are_types_made types ps left

-- whether they make each of some types of the general one at its place
abbrev pub are_all_made : List HolType → List (Name × TypeId) → List TypeId → List TypeId → Bool
are_all_made types pairs general own = types_eq (substitute_all (pairs_at types pairs) (types_of (types_at types general))) (types_of (types_at types own))

-- what is left once the parts of one are left: yes or no, and the rest
abbrev pub LeavesTypes : List HolType → List (Name × TypeId) → List (TypeId × TypeId) → List (TypeId × TypeId) → Bool → Type 0
LeavesTypes types pairs before after seen = are_types_made types (pairs_at types pairs) before ≡ (seen && are_types_made types (pairs_at types pairs) after)

abbrev pub LeavesAll : List HolType → List (Name × TypeId) → List TypeId → List TypeId → List (TypeId × TypeId) → List (TypeId × TypeId) → Bool → Type 0
LeavesAll types pairs general own before after many =
    (are_all_made types pairs general own && are_types_made types (pairs_at types pairs) before)
    ≡ (many && are_types_made types (pairs_at types pairs) after)

-- whether they make a type of a general one, and where a name is another
abbrev pub is_type_made : List HolType → List (Name × TypeId) → TypeId → TypeId → Bool
is_type_made types pairs general own = type_eq (substitute (pairs_at types pairs) (tree_at types general.0)) (tree_at types own.0)

abbrev pub is_named_made : List HolType → List (Name × TypeId) → Named → Named → Bool
is_named_made types pairs general own = name_eq general.name.now own.name.now && is_type_made types pairs general.ty own.ty

-- the numbers are of the table
abbrev pub AreTypesLeft : List HolType → List (TypeId × TypeId) → Type 0
AreTypesLeft types [] = Unit {0}
AreTypesLeft types (p ∷ left) = (p.0.0 < length types) × (p.1.0 < length types) × AreTypesLeft types left

-- how large the general ones are
abbrev pub types_left : List HolType → List (TypeId × TypeId) → ℕ
types_left types [] = 0
types_left types (p ∷ left) = type_size (tree_at types p.0.0) + types_left types left

-- the same of terms
abbrev pub are_terms_made : Trees → Substitution → List (TermId × TermId) → Bool
are_terms_made trees put [] = true
are_terms_made trees put (p ∷ left) = term_eq (made_term trees put p.0) (term_at trees p.1.0) && are_terms_made trees put left

abbrev pub AreTermsLeft : Trees → List (TermId × TermId) → Type 0
AreTermsLeft trees [] = Unit {0}
AreTermsLeft trees (p ∷ left) = (p.0.0 < length trees.terms) × (p.1.0 < length trees.terms) × AreTermsLeft trees left

abbrev pub terms_left : Trees → List (TermId × TermId) → ℕ
terms_left trees [] = 0
terms_left trees (p ∷ left) = term_size (term_at trees p.0.0) + terms_left trees left
