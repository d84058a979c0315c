-- A table of terms over a table of types, as the lists of its types and of its terms by number.
use Rattle.std.specs.Prelude.{◌≡◌, ℕ, ◌<◌, ◌≤◌, List, [], ◌∷◌, length, map, Option, None, Some, slice_get, unwrap_or, refl}
use Rattle.std.specs.Coded.{Coded, code_by, coded×, coded_list}
use Rattle.hol_spec.specs.Types.{HolType}
use Rattle.hol_laws.specs.TypeLaws.{coded_type}
use Rattle.hol_spec.specs.Terms.{Term, bound, IsTerm, HasType, type_under}
use Rattle.hol_laws.specs.TermLaws.{coded_term}
use Rattle.hol_type.specs.declared.table.TypeId.{TypeId}
use Rattle.hol_type.specs.Tables.{tree_at}
use Rattle.hol_type.specs.Tables as type
use Rattle.hol_term.specs.declared.TermId.{TermId}

-- the types and the terms of a table, each by its number
pub record Trees : Type 0 where
  pub types : List HolType
  pub terms : List Term

abbrev pub coded_trees : Coded Trees
coded_trees =
    code_by (List HolType × List Term) (coded× (coded_list coded_type) (coded_list coded_term)) (λ t. (t.types, t.terms))
    (λ p. record { types = p.0; terms = p.1 }) (λ _. refl)

-- the term with a number; a loose number for a number that the list lacks
abbrev pub term_in : List Term → ℕ → Term
term_in terms id = unwrap_or (slice_get terms id) (bound 0)

-- the number's term
abbrev pub term_at : Trees → ℕ → Term
term_at trees id = term_in trees.terms id

-- the number's type
abbrev pub type_at : Trees → ℕ → HolType
type_at trees id = tree_at trees.types id

-- the table has this term under the number
abbrev pub Holds : Trees → ℕ → Term → Type 0
Holds trees id term = slice_get trees.terms id ≡ Some term

-- the number's tree is a term: well typed, and without loose numbers
abbrev pub IsTermAt : Trees → ℕ → Type 0
IsTermAt trees id = IsTerm (term_at trees id)

-- the trees of some numbers
abbrev pub terms_at : Trees → List TermId → List Term
terms_at trees ids = map (λ id. term_at trees id.0) ids

-- the numbers are of the table
abbrev pub AreKnown : Trees → List TermId → Type 0
AreKnown trees [] = Unit {0}
AreKnown trees (id ∷ ids) = (id.0 < length trees.terms) × AreKnown trees ids

-- no tree has two numbers
pub record IsDistinct (terms : List Term) : Type 0 where
  pub each : (i j : ℕ) (t : Term) → slice_get terms i ≡ Some t → slice_get terms j ≡ Some t → i ≡ j

-- every number keeps its term
pub record Stays (old new : List Term) : Type 0 where
  pub each : (i : ℕ) (t : Term) → slice_get old i ≡ Some t → slice_get new i ≡ Some t

-- every number keeps its type or term, no number goes, and no type and no term gets a second one
pub record Keeps (old new : Trees) : Type 0 where
  pub types : type.Keeps old.types new.types
  pub stays : Stays old.terms new.terms
  pub longer : length old.terms ≤ length new.terms
  pub distinct : IsDistinct old.terms → IsDistinct new.terms

-- the number of the type that a tree has, if it has one
abbrev pub IsTypeNumber : List HolType → Option TypeId → Option HolType → Type 0
IsTypeNumber types None o = o ≡ None
IsTypeNumber types (Some id) o = (id.0 < length types) × (o ≡ Some (tree_at types id.0))

-- the numbers of a body and of an argument: the argument is a term, and the body is well typed under a binder of its type
abbrev pub IsBodyFor : Trees → ℕ → ℕ → Type 0
IsBodyFor trees body arg = (a : HolType) × ((b : HolType) × (HasType (term_at trees arg) a × (type_under (a ∷ []) (term_at trees body) ≡ Some b)))
