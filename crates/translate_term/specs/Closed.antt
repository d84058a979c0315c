-- Walks over the parts of a closed sequent, which make their trees over a module.
use Rattle.std.specs.Prelude.{◌≡◌, ℕ, ◌+◌, ◌*◌, ◌<◌, ◌≤◌, suc, List, [], ◌∷◌, map, length}
use Rattle.std.specs.List.{AllByRecursion}
use Rattle.common.specs.Binding.{Pairwise}
use Rattle.hol_spec.specs.Names.{Name}
use Rattle.hol_spec.specs.Types.{HolType, variable_places}
use Rattle.hol_spec.specs.Terms.{Term, Variable, type_variable_places, free_places}
use Rattle.hol_spec.specs.Lists.{IsIn}
use Rattle.hol_spec.specs.Sequents.{Sequent, type_variables_of, free_variables_of}
use Rattle.hol_spec.specs.ClosedForm as form
use Rattle.hol_spec.specs.ClosedForm.{close_type, close_term}
use Rattle.lp_spec.specs.Trees.{Tree, App, Lam}
use Rattle.lp_spec.specs.Modules.{Declaration, applied, products, term_of, proof_of}
use Rattle.lp_term.specs.declared.LpId.{LpId}
use Rattle.lp_term.specs.Tables.{trees_at, AreKnown, Holds}
use Rattle.holide_sig.specs.declared.module.Module.{Module}
use Rattle.holide_sig.specs.Modules.{declarations_of, IsHeld}
use Rattle.translate_spec.specs.Scopes.{SymbolMap, TypeScope, Scope, type_tree, term_tree}
use Rattle.translate_laws.specs.ListedScopes.{parameters}
use Rattle.translate_laws.specs.ListedScopes.{told_types, told}
use Rattle.sequent.specs.declared.closed.TypeNode.{TypeNode}
use Rattle.sequent.specs.Closed.{first, others, firsts, behind, no_type, no_term}
use Rattle.translate_term.specs.declared.closed.TypeWork.{TypeWork}
use Rattle.translate_term.specs.declared.closed.TypeWork.TheVariants as type_work
use Rattle.translate_term.specs.declared.closed.TermWork.{TermWork}
use Rattle.translate_term.specs.declared.closed.TermWork.TheVariants as term_work
use Rattle.translate_term.specs.Told.{TellsType, TellsTerm}

-- what a walk is given: the declarations of its module, the symbols that these tell, and the type variables and free variables whose places the
-- numbers are
pub record Numbered : Type 0 where
  pub declarations : List Declaration
  pub symbols : SymbolMap
  pub names : List Name
  pub variables : List Variable

-- what stands for these under so many binders: each has the binder of its place
abbrev pub types_under : Numbered → ℕ → TypeScope
types_under given depth = told_types (parameters depth 0 given.names)

abbrev pub scope_under : Numbered → ℕ → Scope
scope_under given depth = told given.symbols (parameters depth 0 given.names) (parameters depth (length given.names) given.variables)

-- a type with this closed form, whose symbols are told
pub record IsTypeOf (given : Numbered) (closed : form.ClosedType) (t : HolType) : Type 0 where
  pub is : close_type given.names t ≡ closed
  pub told : TellsType given.declarations given.symbols t
  pub over : AllByRecursion (IsIn given.names) (variable_places t)

-- and such a term
pub record IsTermOf (given : Numbered) (closed : form.ClosedTerm) (t : Term) : Type 0 where
  pub is : close_term given.names given.variables t ≡ closed
  pub told : TellsTerm given.declarations given.symbols t
  pub types : AllByRecursion (IsIn given.names) (type_variable_places t)
  pub terms : AllByRecursion (IsIn given.variables) (free_places t)

-- as many binders as there are parameters of both kinds, or more
abbrev pub IsInside : Numbered → ℕ → Type 0
IsInside given depth = length given.names + length given.variables ≤ depth

-- what is so of the tree that was made last, and the others; of the last, the one before and the others
abbrev pub OfLast : (Tree → List Tree → Type 0) → List Tree → Type 0
OfLast P [] = ⊥
OfLast P (x ∷ made) = P x made

abbrev pub OfLastTwo : (Tree → Tree → List Tree → Type 0) → List Tree → Type 0
OfLastTwo P = OfLast (λ x. OfLast (P x))

-- The works make this tree of the trees that were made and of the types, or the terms, that are still to be read.
abbrev pub MakesTypes : Numbered → ℕ → Tree → List TypeWork → List form.ClosedType → List Tree → Type 0
MakesTypes given depth root [] ts made = made ≡ root ∷ []
MakesTypes given depth root (type_work.Next ∷ works) ts made =
    (t : HolType) × IsTypeOf given (first no_type ts) t
    × MakesTypes given depth root works (others ts) (type_tree given.symbols (types_under given depth) t ∷ made)
MakesTypes given depth root (type_work.Apply ∷ works) ts made = OfLastTwo (λ x f rest. MakesTypes given depth root works ts (App f x ∷ rest)) made
MakesTypes given depth root (type_work.ApplyTo k ∷ works) ts made =
    OfLast (λ f rest. (us : List HolType) × Pairwise (IsTypeOf given) (firsts no_type k ts) us
    × MakesTypes given depth root works (behind k ts) (applied f (map (type_tree given.symbols (types_under given depth)) us) ∷ rest)) made

abbrev pub MakesTerms : Numbered → Tree → List TermWork → List form.ClosedTerm → List Tree → Type 0
MakesTerms given root [] ts made = made ≡ root ∷ []
MakesTerms given root (term_work.Next depth ∷ works) ts made =
    (t : Term) × IsTermOf given (first no_term ts) t × IsInside given depth
    × MakesTerms given root works (others ts) (term_tree given.symbols (scope_under given depth) t ∷ made)
MakesTerms given root (term_work.Apply ∷ works) ts made = OfLastTwo (λ x f rest. MakesTerms given root works ts (App f x ∷ rest)) made
MakesTerms given root (term_work.Bind ∷ works) ts made = OfLastTwo (λ b a rest. MakesTerms given root works ts (Lam (term_of a) b ∷ rest)) made

-- the module is the one that was given, and so many are the type variables
pub record IsNumbered (given : Numbered) (m : Module) (type_vars : ℕ) : Type 0 where
  pub held : IsHeld m
  pub declared : declarations_of m ≡ given.declarations
  pub count : length given.names ≡ type_vars

-- walks on their way
pub record IsTypeWalk (given : Numbered) (root : Tree) (m : Module) (depth : ℕ)
    (works : List TypeWork) (ts : List form.ClosedType) (made : List LpId) : Type 0 where
  pub numbered : IsNumbered given m (length given.names)
  pub known : AreKnown m.table made
  pub makes : MakesTypes given depth root works ts (trees_at m.table made)

pub record IsTermWalk (given : Numbered) (root : Tree) (m : Module) (type_vars : ℕ)
    (works : List TermWork) (ts : List form.ClosedTerm) (made : List LpId) : Type 0 where
  pub numbered : IsNumbered given m type_vars
  pub known : AreKnown m.table made
  pub makes : MakesTerms given root works ts (trees_at m.table made)

-- a tree was made, and put on those that were made before
pub record IsPut (old new : List LpId) (trees : List Tree) (tree : Tree) : Type 0 where
  pub id : LpId
  pub is : new ≡ id ∷ old
  pub holds : Holds trees id.0 tree

-- a type, and a term under so many binders, whose trees are to be made of their closed forms
pub record IsTypeToMake (given : Numbered) (t : HolType) (m : Module) (closed : form.ClosedType) : Type 0 where
  pub numbered : IsNumbered given m (length given.names)
  pub of : IsTypeOf given closed t

pub record IsTermToMake (given : Numbered) (t : Term) (m : Module) (type_vars : ℕ) (closed : form.ClosedTerm) (depth : ℕ) : Type 0 where
  pub numbered : IsNumbered given m type_vars
  pub of : IsTermOf given closed t
  pub inside : IsInside given depth

-- how many turns the works and the nodes of a type take at most
abbrev pub works_of : List TypeWork → ℕ
works_of [] = 0
works_of (type_work.Next ∷ works) = 1 + works_of works
works_of (type_work.Apply ∷ works) = 1 + works_of works
works_of (type_work.ApplyTo k ∷ works) = 1 + 3 * k + works_of works

abbrev pub nodes_work : List TypeNode → ℕ
nodes_work [] = 0
nodes_work (TypeNode.Parameter n ∷ nodes) = nodes_work nodes
nodes_work (TypeNode.Operator n k ∷ nodes) = 1 + 3 * k + nodes_work nodes

-- the hypotheses with these closed forms, the first under so many binders, and what is to stand under them
pub record AreHypotheses (given : Numbered) (hs : List Term) (m : Module) (type_vars : ℕ) (outside : ℕ)
    (closed : List form.ClosedTerm) (inside : LpId) : Type 0 where
  pub numbered : IsNumbered given m type_vars
  pub are : Pairwise (IsTermOf given) closed hs
  pub within : IsInside given outside
  pub known : inside.0 < length m.table

-- the types of free variables with these closed forms, and what is to stand under them
pub record AreVariables (given : Numbered) (ts : List HolType) (m : Module) (type_vars : ℕ) (closed : List form.ClosedType) (inside : LpId) : Type 0 where
  pub numbered : IsNumbered given m type_vars
  pub are : Pairwise (IsTypeOf given) closed ts
  pub known : inside.0 < length m.table

-- the types of the binders of hypotheses, and of free variables with these types, the first under so many binders
abbrev pub hypothesis_domains : Numbered → ℕ → List Term → List Tree
hypothesis_domains given depth [] = []
hypothesis_domains given depth (h ∷ hs) = proof_of (term_tree given.symbols (scope_under given depth) h) ∷ hypothesis_domains given (suc depth) hs

abbrev pub variable_domains : Numbered → ℕ → List HolType → List Tree
variable_domains given depth [] = []
variable_domains given depth (t ∷ ts) = term_of (type_tree given.symbols (types_under given depth) t) ∷ variable_domains given (suc depth) ts

-- the parameters of a sequent, and the product over its hypotheses under the binders of these
abbrev pub numbered_of : List Declaration → SymbolMap → Sequent → Numbered
numbered_of declarations symbols s = record { declarations = declarations; symbols = symbols; names = type_variables_of s; variables = free_variables_of s }

abbrev pub statement_under : Numbered → Sequent → Tree
statement_under given s =
    let outside = length given.names + length given.variables in
    products (hypothesis_domains given outside s.hypotheses)
    (proof_of (term_tree given.symbols (scope_under given (outside + length s.hypotheses)) s.conclusion))
