-- What the walks over the nodes of a closed sequent are given, and what they make.
use Rattle.std.specs.Prelude.{◌≡◌, ℕ, ◌+◌, ◌*◌, List, ◌∷◌, length, Some}
use Rattle.hol_spec.specs.Names.{Name}
use Rattle.hol_spec.specs.Types.{HolType}
use Rattle.hol_spec.specs.Terms.{Term}
use Rattle.hol_spec.specs.Sequents.{Sequent}
use Rattle.hol_spec.specs.ClosedForm as form
use Rattle.lp_spec.specs.Trees.{Tree, Sym}
use Rattle.lp_spec.specs.Modules.{products}
use Rattle.lp_term.specs.declared.LpId.{LpId}
use Rattle.lp_term.specs.Tables.{tree_at, Holds}
use Rattle.holide_sig.specs.declared.module.Module.{Module}
use Rattle.holide_sig.specs.Modules.{declarations_of}
use Rattle.translate_spec.specs.Scopes.{SymbolMap, TypeScope, constant_tree, sequent_tree, term_tree, type_tree}
use Rattle.sequent.specs.declared.closed.TypeNode.{TypeNode}
use Rattle.sequent.specs.declared.closed.TermNode.{TermNode}
use Rattle.sequent.specs.Closed.{spelled_terms, spelled_types, term_step, type_step}
use Rattle.translate_term.specs.declared.closed.TypeWork.{TypeWork}
use Rattle.translate_term.specs.declared.closed.TypeWork.TheVariants as type_work
use Rattle.translate_term.specs.declared.closed.TermWork.{TermWork}
use Rattle.translate_term.specs.declared.closed.TermWork.TheVariants as term_work
use Rattle.translate_term.specs.declared.closed.TypeWalk.{TypeWalk}
use Rattle.translate_term.specs.declared.closed.TermWalk.{TermWalk}
use Rattle.translate_term.specs.Told.{TellsClosed, told_operator}
use Rattle.translate_term.specs.Patterns.{IsTypeTree}
use Rattle.translate_term.specs.Closed.{Numbered, numbered_of, types_under, scope_under, variable_domains, hypothesis_domains, statement_under, MakesTypes, IsTypeWalk, IsTermWalk, IsTypeToMake, IsTermToMake, AreHypotheses, AreVariables, IsPut}

-- a walk with a work before its own
abbrev pub with_type_work : TypeWork → TypeWalk → TypeWalk
with_type_work work w = record w { works = work ∷ w.works }

abbrev pub with_term_work : TermWork → TermWalk → TermWalk
with_term_work work w = record w { works = work ∷ w.works }

-- some walk is on its way, with these nodes of a type still to be read
abbrev pub IsOverTypes : Module → ℕ → List TypeNode → TypeWalk → Type 0
IsOverTypes m depth nodes w = (given : Numbered) × (root : Tree) × IsTypeWalk given root m depth w.works (spelled_types nodes) w.made

-- each that is goes on to here
abbrev pub TypesGoOn : Module → ℕ → List TypeNode → TypeWalk → Module → List TypeNode → TypeWalk → Type 0
TypesGoOn m depth nodes w n left v =
    (given : Numbered) (root : Tree) → IsTypeWalk given root m depth w.works (spelled_types nodes) w.made
    → IsTypeWalk given root n depth v.works (spelled_types left) v.made

-- and makes this of what it is to make
abbrev pub MakesTypeRoot : Module → ℕ → List TypeNode → TypeWalk → Module → LpId → Type 0
MakesTypeRoot m depth nodes w n r =
    (given : Numbered) (root : Tree) → IsTypeWalk given root m depth w.works (spelled_types nodes) w.made → Holds n.table r.0 root

-- some walk is at a node of a type, and each that is goes on from it
abbrev pub IsTypeVisit : Module → ℕ → TypeNode → TypeWalk → Type 0
IsTypeVisit m depth node w =
    (given : Numbered) × (root : Tree) × (ts : List form.ClosedType) × IsTypeWalk given root m depth (type_work.Next ∷ w.works) (type_step node ts) w.made

abbrev pub TypesVisit : Module → ℕ → TypeNode → TypeWalk → Module → TypeWalk → Type 0
TypesVisit m depth node w n v =
    (given : Numbered) (root : Tree) (ts : List form.ClosedType) → IsTypeWalk given root m depth (type_work.Next ∷ w.works) (type_step node ts) w.made
    → IsTypeWalk given root n depth v.works ts v.made

-- what the first works make is what the others make
abbrev pub WorksGoOn : List TypeWork → List TypeWork → Type 0
WorksGoOn works left =
    (given : Numbered) (depth : ℕ) (root : Tree) (ts : List form.ClosedType) (made : List Tree) → MakesTypes given depth root works ts made
    → MakesTypes given depth root left ts made

-- the same of terms
abbrev pub IsOverTerms : Module → ℕ → List TermNode → TermWalk → Type 0
IsOverTerms m type_vars nodes w = (given : Numbered) × (root : Tree) × IsTermWalk given root m type_vars w.works (spelled_terms nodes) w.made

abbrev pub TermsGoOn : Module → ℕ → List TermNode → TermWalk → Module → List TermNode → TermWalk → Type 0
TermsGoOn m type_vars nodes w n left v =
    (given : Numbered) (root : Tree) → IsTermWalk given root m type_vars w.works (spelled_terms nodes) w.made
    → IsTermWalk given root n type_vars v.works (spelled_terms left) v.made

abbrev pub MakesTermRoot : Module → ℕ → List TermNode → TermWalk → Module → LpId → Type 0
MakesTermRoot m type_vars nodes w n r =
    (given : Numbered) (root : Tree) → IsTermWalk given root m type_vars w.works (spelled_terms nodes) w.made → Holds n.table r.0 root

abbrev pub IsTermVisit : Module → ℕ → ℕ → TermNode → TermWalk → Type 0
IsTermVisit m type_vars depth node w =
    (given : Numbered) × (root : Tree) × (ts : List form.ClosedTerm)
    × IsTermWalk given root m type_vars (term_work.Next depth ∷ w.works) (term_step node ts) w.made

abbrev pub TermsVisit : Module → ℕ → ℕ → TermNode → TermWalk → Module → TermWalk → Type 0
TermsVisit m type_vars depth node w n v =
    (given : Numbered) (root : Tree) (ts : List form.ClosedTerm) → IsTermWalk given root m type_vars (term_work.Next depth ∷ w.works) (term_step node ts) w.made
    → IsTermWalk given root n type_vars v.works ts v.made

-- how many turns the works and the nodes of a term take at most
abbrev pub terms_work : List TermWork → List TermNode → ℕ
terms_work works nodes = length works + 3 * length nodes

-- this number has the tree of a type, or of a term, with this closed form under so many binders
abbrev pub MakesTypeOf : Module → form.ClosedType → ℕ → Module → LpId → Type 0
MakesTypeOf m closed depth n r =
    (given : Numbered) (t : HolType) → IsTypeToMake given t m closed → Holds n.table r.0 (type_tree given.symbols (types_under given depth) t)

abbrev pub MakesTermOf : Module → ℕ → form.ClosedTerm → ℕ → Module → LpId → Type 0
MakesTermOf m type_vars closed depth n r =
    (given : Numbered) (t : Term) → IsTermToMake given t m type_vars closed depth → Holds n.table r.0 (term_tree given.symbols (scope_under given depth) t)

-- the product over hypotheses, and over free variables
abbrev pub MakesHypotheses : Module → ℕ → ℕ → List form.ClosedTerm → LpId → Module → LpId → Type 0
MakesHypotheses m type_vars outside closed inside n r =
    (given : Numbered) (hs : List Term) → AreHypotheses given hs m type_vars outside closed inside
    → Holds n.table r.0 (products (hypothesis_domains given outside hs) (tree_at m.table inside.0))

abbrev pub MakesVariables : Module → ℕ → List form.ClosedType → LpId → Module → LpId → Type 0
MakesVariables m type_vars closed inside n r =
    (given : Numbered) (ts : List HolType) → AreVariables given ts m type_vars closed inside
    → Holds n.table r.0 (products (variable_domains given type_vars ts) (tree_at m.table inside.0))

-- a sequent with this closed form, and what stands under its parameters
abbrev pub MakesSequent : Module → form.ClosedSequent → Module → LpId → Type 0
MakesSequent m closed n r = (symbols : SymbolMap) (s : Sequent) → TellsClosed (declarations_of m) symbols s closed → Holds n.table r.0 (sequent_tree symbols s)

abbrev pub MakesStatement : Module → form.ClosedSequent → Module → LpId → Type 0
MakesStatement m closed n r =
    (symbols : SymbolMap) (s : Sequent) → TellsClosed (declarations_of m) symbols s closed
    → Holds n.table r.0 (statement_under (numbered_of (declarations_of m) symbols s) s)

-- the symbol that is told of an operator, and a constant at a type with this tree, are put on what was made
abbrev pub PutsOperator : Module → Name → ℕ → List LpId → Module → List LpId → Type 0
PutsOperator m name arity made n now = (symbol : ℕ) → told_operator (declarations_of m) name arity ≡ Some symbol → IsPut made now n.table (Sym symbol)

abbrev pub PutsConstant : Module → Name → LpId → List LpId → Module → List LpId → Type 0
PutsConstant m name ty made n now =
    (symbols : SymbolMap) (scope : TypeScope) (t : HolType) → IsTypeTree symbols scope t m name ty → IsPut made now n.table (constant_tree symbols scope name t)
