-- The nodes of a type and of a term in order: they spell it.
use Rattle.std.specs.Prelude.{◌≡◌, ℕ, suc, List, [], ◌∷◌, ◌++◌, refl}
use Rattle.std.proofs.Common.{sym, ap, ◌∙◌, append_assoc}
use Rattle.std.proofs.Math.Path.{ap₂}
use Rattle.std.proofs.lemmas.List.{append-nil}
use Rattle.hol_spec.specs.ClosedForm as form
use Rattle.sequent.specs.declared.closed.TypeNode.{TypeNode}
use Rattle.sequent.specs.declared.closed.ClosedType.{ClosedType}
use Rattle.sequent.specs.declared.closed.TermNode.{TermNode}
use Rattle.sequent.specs.Closed.{first, firsts, behind, closed_types_of, closed_type_view, no_type, type_step, spelled_types, term_step, spelled_terms}

-- how many types these are, and their list
abbrev pub count : form.ClosedTypes → ℕ
count form.ClosedTypes.none = 0
count (form.ClosedTypes.more t ts) = suc (count ts)

abbrev pub listed : form.ClosedTypes → List form.ClosedType
listed form.ClosedTypes.none = []
listed (form.ClosedTypes.more t ts) = t ∷ listed ts

-- the nodes of a type, and of types one after another
abbrev mutual
  pub flat_type : form.ClosedType → List TypeNode
  flat_type (form.ClosedType.parameter n) = TypeNode.Parameter n ∷ []
  flat_type (form.ClosedType.operator n ts) = TypeNode.Operator n (count ts) ∷ flat_types ts

  pub flat_types : form.ClosedTypes → List TypeNode
  flat_types form.ClosedTypes.none = []
  flat_types (form.ClosedTypes.more t ts) = flat_type t ++ flat_types ts

-- these are the nodes of a term
abbrev pub IsFlat : form.ClosedTerm → List TermNode → Type 0
IsFlat (form.ClosedTerm.parameter n) nodes = nodes ≡ TermNode.Parameter n ∷ []
IsFlat (form.ClosedTerm.bound k) nodes = nodes ≡ TermNode.Bound k ∷ []
IsFlat (form.ClosedTerm.constant n t) nodes = (c : ClosedType) × (c.nodes.items ≡ flat_type t) × (nodes ≡ TermNode.Constant n c ∷ [])
IsFlat (form.ClosedTerm.app f x) nodes = (fs : List TermNode) × (xs : List TermNode) × IsFlat f fs × IsFlat x xs × (nodes ≡ TermNode.App ∷ fs ++ xs)
IsFlat (form.ClosedTerm.lam t b) nodes = (c : ClosedType) × (bs : List TermNode) × (c.nodes.items ≡ flat_type t) × IsFlat b bs × (nodes ≡ TermNode.Lam c ∷ bs)

-- types that stand first are all taken, and those behind are left
pub closed_types_of-firsts : (ts : form.ClosedTypes) (rest : List form.ClosedType) → closed_types_of (firsts no_type (count ts) (listed ts ++ rest)) ≡ ts
closed_types_of-firsts form.ClosedTypes.none rest = refl
closed_types_of-firsts (form.ClosedTypes.more t ts) rest = ap (form.ClosedTypes.more t) (closed_types_of-firsts ts rest)

pub behind-listed : (ts : form.ClosedTypes) (rest : List form.ClosedType) → behind (count ts) (listed ts ++ rest) ≡ rest
behind-listed form.ClosedTypes.none rest = refl
behind-listed (form.ClosedTypes.more t ts) rest = behind-listed ts rest

-- the nodes of a type, and of types, spell them before what the nodes behind spell
mutual
  pub spelled_types-flat_type : (t : form.ClosedType) (rest : List TypeNode) → spelled_types (flat_type t ++ rest) ≡ t ∷ spelled_types rest
  spelled_types-flat_type (form.ClosedType.parameter n) rest = refl
  spelled_types-flat_type (form.ClosedType.operator n ts) rest =
      ap (type_step (TypeNode.Operator n (count ts))) (spelled_types-flat_types ts rest)
      ∙ ap₂ (λ us more. form.ClosedType.operator n us ∷ more) (closed_types_of-firsts ts (spelled_types rest)) (behind-listed ts (spelled_types rest))

  pub spelled_types-flat_types : (ts : form.ClosedTypes) (rest : List TypeNode) → spelled_types (flat_types ts ++ rest) ≡ listed ts ++ spelled_types rest
  spelled_types-flat_types form.ClosedTypes.none rest = refl
  spelled_types-flat_types (form.ClosedTypes.more t ts) rest =
      ap spelled_types (append_assoc (flat_type t) (flat_types ts) rest)
      ∙ spelled_types-flat_type t (flat_types ts ++ rest)
      ∙ ap (λ more. t ∷ more) (spelled_types-flat_types ts rest)

-- a type with these nodes is the type
view-flat_type : (t : form.ClosedType) (c : ClosedType) → c.nodes.items ≡ flat_type t → closed_type_view c ≡ t
view-flat_type t c e = ap (λ nodes. first no_type (spelled_types nodes)) (e ∙ sym (append-nil (flat_type t))) ∙ ap (first no_type)
    (spelled_types-flat_type t [])

-- the nodes of a term spell it before what the nodes behind spell
pub spelled_terms-IsFlat : (t : form.ClosedTerm) (nodes rest : List TermNode) → IsFlat t nodes → spelled_terms (nodes ++ rest) ≡ t ∷ spelled_terms rest
spelled_terms-IsFlat (form.ClosedTerm.parameter n) nodes rest e = ap (λ l. spelled_terms (l ++ rest)) e
spelled_terms-IsFlat (form.ClosedTerm.bound k) nodes rest e = ap (λ l. spelled_terms (l ++ rest)) e
spelled_terms-IsFlat (form.ClosedTerm.constant n t) nodes rest h =
    ap (λ l. spelled_terms (l ++ rest)) h.2 ∙ ap (λ u. form.ClosedTerm.constant n u ∷ spelled_terms rest) (view-flat_type t h.0 h.1)
spelled_terms-IsFlat (form.ClosedTerm.app f x) nodes rest h =
    ap (λ l. spelled_terms (l ++ rest)) h.4
    ∙ ap (λ l. term_step TermNode.App (spelled_terms l)) (append_assoc h.0 h.1 rest)
    ∙ ap (term_step TermNode.App) (spelled_terms-IsFlat f h.0 (h.1 ++ rest) h.2 ∙ ap (λ more. f ∷ more) (spelled_terms-IsFlat x h.1 rest h.3))
spelled_terms-IsFlat (form.ClosedTerm.lam t b) nodes rest h =
    ap (λ l. spelled_terms (l ++ rest)) h.4
    ∙ ap (term_step (TermNode.Lam h.0)) (spelled_terms-IsFlat b h.1 rest h.3)
    ∙ ap (λ u. form.ClosedTerm.lam u b ∷ spelled_terms rest) (view-flat_type t h.0 h.2)
