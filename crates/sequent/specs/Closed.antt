-- What the closed form of a sequent stands for.
use Rattle.std.specs.Prelude.{ℕ, zero, suc, List, [], ◌∷◌, map}
use Rattle.hol_spec.specs.ClosedForm as form
use Rattle.hol_spec.specs.ClosedForm.{ClosedSequent}
use Rattle.sequent.specs.declared.closed.TypeNode.{TypeNode}
use Rattle.sequent.specs.declared.closed.ClosedType.{ClosedType}
use Rattle.sequent.specs.declared.closed.TermNode.{TermNode}
use Rattle.sequent.specs.declared.closed.ClosedTerm.{ClosedTerm}
use Rattle.sequent.specs.declared.closed.Closed.{Closed}

-- the first of a list, or a default, and the others
abbrev pub first : {A : Type 0} → A → List A → A
first d [] = d
first d (x ∷ xs) = x

abbrev pub others : {A : Type 0} → List A → List A
others [] = []
others (x ∷ xs) = xs

-- so many from the beginning of a list, each of them a default that the list lacks, and the others
abbrev pub firsts : {A : Type 0} → A → ℕ → List A → List A
firsts d zero xs = []
firsts d (suc k) xs = first d xs ∷ firsts d k (others xs)

abbrev pub behind : {A : Type 0} → ℕ → List A → List A
behind zero xs = xs
behind (suc k) xs = behind k (others xs)

-- a list of types as arguments
abbrev pub closed_types_of : List form.ClosedType → form.ClosedTypes
closed_types_of [] = form.ClosedTypes.none
closed_types_of (t ∷ ts) = form.ClosedTypes.more t (closed_types_of ts)

-- what stands for a type that nodes lack
abbrev pub no_type : form.ClosedType
no_type = form.ClosedType.parameter 0

-- the types that a list of nodes spells: an operator takes its arguments from those that the nodes behind it spell
abbrev pub type_step : TypeNode → List form.ClosedType → List form.ClosedType
type_step (TypeNode.Parameter n) ts = form.ClosedType.parameter n ∷ ts
type_step (TypeNode.Operator n k) ts = form.ClosedType.operator n (closed_types_of (firsts no_type k ts)) ∷ behind k ts

abbrev pub spelled_types : List TypeNode → List form.ClosedType
spelled_types [] = []
spelled_types (node ∷ nodes) = type_step node (spelled_types nodes)

-- a type is the first that its nodes spell
abbrev pub closed_type_view : ClosedType → form.ClosedType
closed_type_view t = first no_type (spelled_types t.nodes.items)

-- what stands for a term that nodes lack
abbrev pub no_term : form.ClosedTerm
no_term = form.ClosedTerm.parameter 0

-- the terms that a list of nodes spells: an application and an abstraction take their parts from those that the nodes behind them spell
abbrev pub term_step : TermNode → List form.ClosedTerm → List form.ClosedTerm
term_step (TermNode.Parameter n) ts = form.ClosedTerm.parameter n ∷ ts
term_step (TermNode.Bound k) ts = form.ClosedTerm.bound k ∷ ts
term_step (TermNode.Constant n t) ts = form.ClosedTerm.constant n (closed_type_view t) ∷ ts
term_step TermNode.App ts = form.ClosedTerm.app (first no_term ts) (first no_term (others ts)) ∷ others (others ts)
term_step (TermNode.Lam t) ts = form.ClosedTerm.lam (closed_type_view t) (first no_term ts) ∷ others ts

abbrev pub spelled_terms : List TermNode → List form.ClosedTerm
spelled_terms [] = []
spelled_terms (node ∷ nodes) = term_step node (spelled_terms nodes)

-- a term is the first that its nodes spell
abbrev pub closed_term_view : ClosedTerm → form.ClosedTerm
closed_term_view t = first no_term (spelled_terms t.nodes.items)

abbrev pub closed_view : Closed → ClosedSequent
closed_view c = record {
  type_variable_count = c.type_vars;
  free_variable_types = map closed_type_view c.free_vars.items;
  hypotheses = map closed_term_view c.hyps.items;
  conclusion = closed_term_view c.concl;
}
