-- The walks that close a type and a term: what they are still to visit, and the nodes so far.
use Rattle.std.specs.Prelude.{◌≡◌, ℕ, ◌+◌, List, [], ◌∷◌, ◌++◌, map}
use Rattle.hol_spec.specs.Names.{Name}
use Rattle.hol_spec.specs.Types.{HolType}
use Rattle.hol_spec.specs.Terms.{Variable}
use Rattle.hol_spec.specs.Limits.{type_size, term_size}
use Rattle.hol_spec.specs.ClosedForm.{ClosedType, ClosedTerm, close_type, close_term}
use Rattle.hol_type.specs.declared.table.TypeId.{TypeId}
use Rattle.hol_type.specs.Tables as type
use Rattle.hol_type.specs.Tables.{tree_at, types_at}
use Rattle.hol_term.specs.declared.TermId.{TermId}
use Rattle.hol_term.specs.Tables.{Trees, term_at, terms_at, AreKnown}
use Rattle.sequent.specs.declared.closed.TypeNode.{TypeNode}
use Rattle.sequent.specs.declared.closed.TermNode.{TermNode}
use Rattle.sequent.specs.Closed.{spelled_types, spelled_terms}

-- before nodes that spell the closed forms of what is still to be visited, the nodes so far spell the root's
pub record IsTypeWalk (trees : List HolType) (names : List Name) (root : ClosedType) (tasks : List TypeId) (nodes : List TypeNode) : Type 0 where
  pub known : type.AreKnown trees tasks
  pub spells : (later : List TypeNode) → spelled_types later ≡ map (close_type names) (types_at trees tasks) → spelled_types (nodes ++ later) ≡ root ∷ []

pub record IsWalk (trees : Trees) (names : List Name) (variables : List Variable) (root : ClosedTerm) (tasks : List TermId) (nodes : List TermNode) : Type 0
  where
    pub known : AreKnown trees tasks
    pub spells : (later : List TermNode) → spelled_terms later ≡ map (close_term names variables) (terms_at trees tasks) → spelled_terms (nodes ++ later)
        ≡ root ∷ []

-- how many turns they take at most
abbrev pub type_work : List HolType → List TypeId → ℕ
type_work trees [] = 0
type_work trees (id ∷ ids) = type_size (tree_at trees id.0) + type_work trees ids

abbrev pub work : Trees → List TermId → ℕ
work trees [] = 0
work trees (id ∷ ids) = term_size (term_at trees id.0) + work trees ids
