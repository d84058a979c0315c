-- The parts of a term, and the walk that comes to each of them once.
use Rattle.std.specs.Prelude.{◌≡◌, ◌⊎◌, ℕ, ◌+◌, ◌<◌, ◌≤◌, List, [], ◌∷◌, ◌++◌, length, Bool, true, Some, slice_get}
use Rattle.hol_spec.specs.Names.{Name}
use Rattle.hol_spec.specs.Lists.{is_in, union}
use Rattle.hol_spec.specs.Types.{variable_places}
use Rattle.hol_spec.specs.Terms.{Term, free, bound, constant, app, lam, Variable as AVariable, term_eq}
use Rattle.hol_spec.specs.Limits.{term_size}
use Rattle.hol_term.specs.declared.TermId.{TermId}
use Rattle.hol_term.specs.declared.Variable.{Variable}
use Rattle.hol_term.specs.Tables.{Trees, term_at, type_at, terms_at, AreKnown}

-- a term and its parts, each before its own, from the left to the right
abbrev pub subterms : Term → List Term
subterms (free n t) = free n t ∷ []
subterms (bound k) = bound k ∷ []
subterms (constant n t) = constant n t ∷ []
subterms (app f x) = app f x ∷ subterms f ++ subterms x
subterms (lam t b) = lam t b ∷ subterms b

-- the variable that a term is, if it is free
abbrev pub free_head : Term → List AVariable
free_head (free n t) = (n, t) ∷ []
free_head _ = []

-- the type variables in the head of a term
abbrev pub type_head : Term → List Name
type_head (free n t) = variable_places t
type_head (bound k) = []
type_head (constant n t) = variable_places t
type_head (app f x) = []
type_head (lam t b) = variable_places t

-- what is gathered of each of some elements
abbrev pub gathered : {A B : Type 0} → (B → List A) → List B → List A
gathered head [] = []
gathered head (t ∷ ts) = head t ++ gathered head ts

-- the variables with these names and types
abbrev pub variables_of : Trees → List Variable → List AVariable
variables_of trees [] = []
variables_of trees (v ∷ vs) = (v.name, type_at trees v.ty.0) ∷ variables_of trees vs

-- their types are of the table
abbrev pub HaveTypes : Trees → List Variable → Type 0
HaveTypes trees [] = Unit {0}
HaveTypes trees (v ∷ vs) = (v.ty.0 < length trees.types) × HaveTypes trees vs

-- the list has this number
abbrev pub IsAmong : List TermId → TermId → Type 0
IsAmong ids id = (i : ℕ) × (slice_get ids i ≡ Some id)

-- each element of the second list is one of the first
abbrev pub AreIn : {A : Type 0} → (A → A → Bool) → List A → List A → Type 0
AreIn same found [] = Unit {0}
AreIn same found (x ∷ xs) = (is_in same x found ≡ true) × AreIn same found xs

-- with this number the list has those of all its parts
abbrev pub HasSubterms : Trees → List TermId → TermId → Type 0
HasSubterms trees ids id = AreIn term_eq (terms_at trees ids) (subterms (term_at trees id.0))

-- a walk that is to come to this tree: what was noted with no greater number has its parts with it
pub record IsOnWay (trees : Trees) (id : TermId) (ids : List TermId) : Type 0 where
  pub known : AreKnown trees ids
  pub closed : (j : TermId) → IsAmong ids j → j.0 ≤ id.0 → HasSubterms trees ids j

-- a walk that has come to this tree: its parts that were not noted are noted, and each of them has its parts with it
pub record Comes (trees : Trees) (id : TermId) (old new : List TermId) : Type 0 where
  pub known : AreKnown trees new
  pub terms : terms_at trees new ≡ union term_eq (terms_at trees old) (subterms (term_at trees id.0))
  pub closed : (j : TermId) → IsAmong new j → IsAmong old j ⊎ HasSubterms trees new j

-- A walk that comes to these trees one after another ends where it has come to the root: each is on its way once those before it were come to.
abbrev pub IsOnTour : Trees → TermId → List TermId → List TermId → List TermId → Type 0
IsOnTour trees root before [] seen = Comes trees root before seen
IsOnTour trees root before (id ∷ next) seen = (id.0 < length trees.terms) × IsOnWay trees id seen
    × ((then : List TermId) → Comes trees id seen then → IsOnTour trees root before next then)

-- how many nodes the trees have together
abbrev pub sizes : Trees → List TermId → ℕ
sizes trees [] = 0
sizes trees (id ∷ ids) = term_size (term_at trees id.0) + sizes trees ids
