-- Constants that are put for the variables of a list, and the hypotheses that define them.
use Rattle.std.specs.Prelude.{◌≡◌, ℕ, ◌<◌, ◌++◌, ◌∷◌, List, [], length, map, IfOk, OnOk, Result}
use Rattle.std.specs.List.{AllByRecursion}
use Rattle.hol_spec.specs.DefinitionLists.{ConstantPairs, constants_put}
use Rattle.hol_spec.specs.Names.{Name}
use Rattle.hol_spec.specs.Primitives.{bool}
use Rattle.hol_spec.specs.Terms.{Term, HasType, equation}
use Rattle.hol_spec.specs.Types.{HolType}
use Rattle.hol_term.specs.declared.Variable.{Variable}
use Rattle.hol_term.specs.declared.TermId.{TermId}
use Rattle.hol_term.specs.Subterms.{variables_of}
use Rattle.hol_term.specs.Tables.{Trees, term_at, terms_at, type_at}
use Rattle.hol_rules.specs.Kept.{Kept}
use Rattle.hol_rules.specs.Views.{variable_view}
use Rattle.hol_defs.specs.Lists.{pairs_at as pairs_view}
use Rattle.holide_sig.specs.declared.module.Module.{Module}
use Rattle.lp_spec.specs.Trees.{Tree}
use Rattle.lp_term.specs.declared.LpId.{LpId}
use Rattle.lp_term.specs.Tables.{Holds}
use Rattle.translate_spec.specs.ProofTrees.{constants_scope, premise_tree, self_proof}
use Rattle.translate_spec.specs.Scopes.{Scope}
use Rattle.translate_term.specs.Told.{TellsConstant, TellsTerm}
use Rattle.translate_proof.specs.declared.ground.Ground.{Ground}
use Rattle.translate_proof.specs.declared.premise.Premise.{Premise}
use Rattle.translate_proof.specs.declared.rows.Equated.{Equated}
use Rattle.translate_proof.specs.declared.scope.Environment.{Environment}
use Rattle.translate_proof.specs.Environments.{Given, Ready, Represents}
use Rattle.translate_proof.specs.Grounds.{AddsWhere, MakesWhere, TellsTypeAt, TellsVariables}
use Rattle.translate_proof.specs.RuleRows.{premise_at}
use Rattle.translate_proof.specs.Told.{TellsStep}

-- a module tells the constants that are put for variables
abbrev pub TellsConstants : Given → ConstantPairs → Type 0
TellsConstants given pairs = AllByRecursion (λ p. TellsConstant given.declarations given.symbols p.0 p.1.1) pairs

-- what stands where these constants are put
abbrev pub scope_with : Given → Trees → List (Name × Variable) → Scope
scope_with given trees pairs = constants_scope given.symbols given.scope (constants_put (pairs_view trees pairs))

-- each variable with the constant that is put for it
abbrev pub by_variable : List (Name × Variable) → List (Variable × Name)
by_variable pairs = map (λ p. (p.1, p.0)) pairs

-- a formula that is an equation
pub record IsEquationFormula (h : Term) : Type 0 where
  pub ty : HolType
  pub left : Term
  pub right : Term
  pub is : h ≡ equation ty left right
  pub typed : HasType h bool

-- and these are the numbers of its type and its sides
pub record IsEquatedFormula (trees : Trees) (h : Term) (e : Equated) : Type 0 where
  pub ty : e.ty.0 < length trees.types
  pub right : e.right.0 < length trees.terms
  pub is : h ≡ equation (type_at trees e.ty.0) (term_at trees e.left.0) (term_at trees e.right.0)
  pub typed : HasType (term_at trees e.right.0) (type_at trees e.ty.0)

-- what `constant_list` is told: the module tells the constants too
abbrev pub TellsList : Module → Ground → List (Name × Variable) → ℕ → Type 0
TellsList m on pairs one =
    (given : Given) × Represents given m on.proof.now.trees on.env.now × TellsConstants given (pairs_view on.proof.now.trees pairs)
    × TellsStep given on.proof.now one

-- and what it makes: the premise where the constants are put
abbrev pub MakesList : {E : Type 0} → Module → Module → Ground → List (Name × Variable) → Premise → Result LpId E → Type 0
MakesList old new on pairs one result =
    IfOk result (λ r. (given : Given) → Represents given old on.proof.now.trees on.env.now → TellsConstants given (pairs_view on.proof.now.trees pairs)
    → TellsStep given on.proof.now one.id → Holds new.table r.0 (premise_tree (scope_with given on.proof.now.trees pairs) (premise_at on.proof.now one)))

-- the module tells the constants that are put for variables, where the scope and the module meet a condition
abbrev pub TellsConstantsWhere : Module → Kept → Environment → List (Name × Variable) → (Given → Type 0) → Type 0
TellsConstantsWhere m k env pairs If = (given : Given) × Represents given m k.trees env × TellsConstants given (pairs_view k.trees pairs) × If given

-- what is added to some arguments is what stands, where the constants are put, for a free variable, and for several
abbrev pub AddsConstant : {A E : Type 0} → Module → Module → Ground → List LpId → List LpId → List (Name × Variable) → Variable → Result A E → Type 0
AddsConstant old new on before after pairs v result =
    OnOk result ((given : Given) (made : List Tree) → Ready given old on.proof.now.trees on.env.now before made
    → TellsConstants given (pairs_view on.proof.now.trees pairs) → TellsTypeAt on.proof.now v.ty given
    → Ready given new on.proof.now.trees on.env.now after (made ++ (scope_with given on.proof.now.trees pairs).terms (variable_view on.proof.now.trees v) ∷ []))

abbrev pub AddsConstants : {A E : Type 0} → Module → Module → Ground → List LpId → List LpId → List (Name × Variable) → List Variable → Result A E → Type 0
AddsConstants old new on before after pairs vs result =
    OnOk result ((given : Given) (made : List Tree) → Ready given old on.proof.now.trees on.env.now before made
    → TellsConstants given (pairs_view on.proof.now.trees pairs) → TellsVariables on.proof.now vs given
    → Ready given new on.proof.now.trees on.env.now after (made ++ map (scope_with given on.proof.now.trees pairs).terms (variables_of on.proof.now.trees vs)))

-- the module tells the symbols of a formula, and of several
abbrev pub TellsFormula : Kept → TermId → Given → Type 0
TellsFormula k id given = TellsTerm given.declarations given.symbols (term_at k.trees id.0)

abbrev pub TellsFormulas : Kept → List TermId → Given → Type 0
TellsFormulas k ids given = AllByRecursion (TellsTerm given.declarations given.symbols) (terms_at k.trees ids)

-- reflexivity of the right side of an equation is made or added, and for several
abbrev pub self_proof_row : Kept → TermId → Given → Tree
self_proof_row k id given = self_proof given.symbols given.scope (term_at k.trees id.0)

abbrev pub MakesSelfProof : {E : Type 0} → Module → Module → Ground → TermId → Result LpId E → Type 0
MakesSelfProof old new on id result = MakesWhere old new on.proof.now on.env.now (TellsFormula on.proof.now id) result (self_proof_row on.proof.now id)

abbrev pub AddsSelfProof : {A E : Type 0} → Module → Module → Ground → List LpId → List LpId → TermId → Result A E → Type 0
AddsSelfProof old new on before after id result =
    AddsWhere old new on before after (TellsFormula on.proof.now id) result (λ given. self_proof_row on.proof.now id given ∷ [])

abbrev pub AddsSelfProofs : {A E : Type 0} → Module → Module → Ground → List LpId → List LpId → List TermId → Result A E → Type 0
AddsSelfProofs old new on before after ids result =
    AddsWhere old new on before after (TellsFormulas on.proof.now ids) result
    (λ given. map (self_proof given.symbols given.scope) (terms_at on.proof.now.trees ids))
