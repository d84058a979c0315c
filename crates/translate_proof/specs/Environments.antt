-- What stands for type variables, free variables and hypotheses, as the pairs of an environment and as a scope.
use Rattle.std.specs.Prelude.{◌≡◌, ◌<◌, ◌≤◌, List, [], ◌∷◌, length}
use Rattle.std.specs.Option.{unwrap_or}
use Rattle.std.specs.Map.{lookup}
use Rattle.hol_spec.specs.Names.{Name}
use Rattle.hol_spec.specs.Types.{HolType}
use Rattle.hol_spec.specs.Terms.{Term, Variable, variable_eq, term_eq}
use Rattle.hol_spec.specs.TermBinding.{loose}
use Rattle.hol_type.specs.Tables as type
use Rattle.hol_term.specs.declared.TermId.{TermId}
use Rattle.hol_term.specs.declared.Variable.{Variable as AVariable}
use Rattle.hol_term.specs.Tables.{Trees, term_at, IsDistinct}
use Rattle.lp_spec.specs.Trees.{Tree, Sym}
use Rattle.lp_spec.specs.Modules.{Declaration}
use Rattle.lp_term.specs.declared.LpId.{LpId}
use Rattle.lp_term.specs.Tables.{tree_at, trees_at, AreKnown}
use Rattle.holide_sig.specs.declared.module.Module.{Module}
use Rattle.holide_sig.specs.Modules.{declarations_of, IsHeld}
use Rattle.translate_spec.specs.Scopes.{SymbolMap, TypeScope, Scope, type_tree, filler}
use Rattle.translate_laws.specs.ListedScopes.{told_types}
use Rattle.translate_term.specs.Told.{TellsTerm, types_in, terms_in, AreTypesKnown, AreTermsKnown}
use Rattle.translate_proof.specs.declared.scope.Environment.{Environment}

-- what proves each of some hypotheses
abbrev pub proofs_in : Trees → List Tree → List (TermId × LpId) → List (Term × Tree)
proofs_in terms trees [] = []
proofs_in terms trees (e ∷ es) = (term_at terms e.0.0, tree_at trees e.1.0) ∷ proofs_in terms trees es

-- the numbers of hypotheses are of the table of terms, and those of what proves them of the module's table
abbrev pub AreProofsKnown : Trees → List Tree → List (TermId × LpId) → Type 0
AreProofsKnown terms trees [] = Unit {0}
AreProofsKnown terms trees (e ∷ es) = (e.0.0 < length terms.terms) × (e.1.0 < length trees) × AreProofsKnown terms trees es

-- the pairs tell what stands for each type variable: `bool` where they have none
pub record TellTypes (trees : List Tree) (entries : List (Name × LpId)) (scope : TypeScope) : Type 0 where
  pub known : AreTypesKnown trees entries
  pub each : (n : Name) → told_types (types_in trees entries) n ≡ scope n

-- they tell what stands for each free variable, where something else stands for those that they have not
pub record TellTerms (types : List HolType) (trees : List Tree) (entries : List (AVariable × LpId)) (other scope : Variable → Tree) : Type 0 where
  pub known : AreTermsKnown types trees entries
  pub each : (v : Variable) → unwrap_or (lookup (variable_eq v) (terms_in types trees entries)) (other v) ≡ scope v

-- they tell what proves each hypothesis, where something else stands for those that they have not
pub record TellProofs (terms : Trees) (trees : List Tree) (entries : List (TermId × LpId)) (other scope : Term → Tree) : Type 0 where
  pub known : AreProofsKnown terms trees entries
  pub each : (h : Term) → unwrap_or (lookup (term_eq h) (proofs_in terms trees entries)) (other h) ≡ scope h

-- what a translation is given: the declarations of its module, the symbols that these tell, and what stands for variables and hypotheses
pub record Given : Type 0 where
  pub declarations : List Declaration
  pub symbols : SymbolMap
  pub scope : Scope

-- where nothing is told for a free variable, it is some term of its type; where nothing is told for a hypothesis, no proof
abbrev pub filled_terms : SymbolMap → TypeScope → Variable → Tree
filled_terms symbols types v = filler (type_tree symbols types v.1)

abbrev pub unproved : Term → Tree
unproved h = Sym 0

-- an environment over a module and a table of terms stands for the scope that is given
pub record Represents (given : Given) (m : Module) (terms : Trees) (env : Environment) : Type 0 where
  pub held : IsHeld m
  pub declared : declarations_of m ≡ given.declarations
  pub one_type : type.IsDistinct terms.types
  pub one_term : IsDistinct terms.terms
  pub types : TellTypes m.table env.scope.types given.scope.types
  pub terms_told : TellTerms terms.types m.table env.scope.terms (filled_terms given.symbols given.scope.types) given.scope.terms
  pub proofs : TellProofs terms m.table env.proofs unproved given.scope.proofs

-- and some arguments are made, which are these trees
pub record Ready (given : Given) (m : Module) (terms : Trees) (env : Environment) (args : List LpId) (made : List Tree) : Type 0 where
  pub stands : Represents given m terms env
  pub known : AreKnown m.table args
  pub are : trees_at m.table args ≡ made

-- the module tells the symbols of a term, which has no loose number
pub record IsTold (given : Given) (t : Term) : Type 0 where
  pub told : TellsTerm given.declarations given.symbols t
  pub closed : loose t ≤ 0
