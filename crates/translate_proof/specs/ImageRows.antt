-- A premise where the images of a substitution stand for its variables and prove its hypotheses, and what is added for it.
use Rattle.std.specs.Prelude.{◌∷◌, ◌++◌, List, [], map, OnOk, Result}
use Rattle.std.specs.List.{AllByRecursion}
use Rattle.hol_spec.specs.Lists.{IsIn}
use Rattle.hol_spec.specs.Names.{Name}
use Rattle.hol_spec.specs.Substitution.{image}
use Rattle.hol_spec.specs.Terms.{Term, Variable as ATerm}
use Rattle.hol_spec.specs.TermSubstitution.{sub}
use Rattle.hol_term.specs.declared.TermId.{TermId}
use Rattle.hol_term.specs.declared.Variable.{Variable}
use Rattle.hol_term.specs.Subterms.{variables_of}
use Rattle.hol_term.specs.Tables.{Trees, terms_at}
use Rattle.hol_rules.specs.Kept.{Kept}
use Rattle.hol_rules.specs.Views.{variable_view}
use Rattle.hol_rules.specs.declared.made.Substitution.{Substitution}
use Rattle.holide_sig.specs.declared.module.Module.{Module}
use Rattle.lp_spec.specs.Trees.{Tree}
use Rattle.lp_term.specs.declared.LpId.{LpId}
use Rattle.translate_spec.specs.ProofTrees.{subst_tree}
use Rattle.translate_spec.specs.Scopes.{Scope, images, type_tree}
use Rattle.translate_term.specs.Told.{TellsType}
use Rattle.translate_proof.specs.declared.ground.Ground.{Ground}
use Rattle.translate_proof.specs.declared.premise.Premise.{Premise}
use Rattle.translate_proof.specs.Environments.{Given, IsTold, Ready}
use Rattle.translate_proof.specs.Grounds.{AddsWhere}
use Rattle.translate_proof.specs.Images.{term_pairs, type_pairs, variable_image}
use Rattle.translate_proof.specs.RuleRows.{premise_at}

-- the premise there
abbrev pub subst_row : Kept → Substitution → Premise → Given → Tree
subst_row k put one given = subst_tree given.symbols given.scope (type_pairs k.trees put) (term_pairs k.trees put) (premise_at k one)

-- the scope in which the images stand
abbrev pub scope_put : Kept → Substitution → Given → Scope
scope_put k put given = images given.symbols (type_pairs k.trees put) (term_pairs k.trees put) given.scope

-- the module tells the image of a type variable, and of several
abbrev pub TellsTypeImage : Kept → Substitution → Name → Given → Type 0
TellsTypeImage k put n given = TellsType given.declarations given.symbols (image (type_pairs k.trees put) n)

abbrev pub TellsTypeImages : Kept → Substitution → List Name → Given → Type 0
TellsTypeImages k put names given = AllByRecursion (λ (n : Name). TellsType given.declarations given.symbols (image (type_pairs k.trees put) n)) names

-- it tells the image of a free variable, and of several
abbrev pub TellsTermImage : Kept → Substitution → Variable → Given → Type 0
TellsTermImage k put v given = IsTold given (variable_image k.trees put (variable_view k.trees v))

abbrev pub TellsTermImages : Kept → Substitution → List Variable → Given → Type 0
TellsTermImages k put vs given = AllByRecursion (λ (v : ATerm). IsTold given (variable_image k.trees put v)) (variables_of k.trees vs)

-- each hypothesis becomes one of the step's own
abbrev pub HaveOwnHypotheses : Trees → Substitution → List TermId → List TermId → Type 0
HaveOwnHypotheses trees put own hyps =
    AllByRecursion (λ (h : Term). IsIn (terms_at trees own) (sub (type_pairs trees put) (term_pairs trees put) h)) (terms_at trees hyps)

-- what is added to some arguments is the image of a type variable, and of several
abbrev pub AddsTypeImage : {A E : Type 0} → Module → Module → Ground → List LpId → List LpId → Substitution → Name → Result A E → Type 0
AddsTypeImage old new on before after put n result =
    AddsWhere old new on before after (TellsTypeImage on.proof.now put n) result
    (λ given. type_tree given.symbols given.scope.types (image (type_pairs on.proof.now.trees put) n) ∷ [])

abbrev pub AddsTypeImages : {A E : Type 0} → Module → Module → Ground → List LpId → List LpId → Substitution → List Name → Result A E → Type 0
AddsTypeImages old new on before after put names result =
    AddsWhere old new on before after (TellsTypeImages on.proof.now put names) result (λ given. map (scope_put on.proof.now put given).types names)

-- that of a free variable, and of several
abbrev pub AddsTermImage : {A E : Type 0} → Module → Module → Ground → List LpId → List LpId → Substitution → Variable → Result A E → Type 0
AddsTermImage old new on before after put v result =
    AddsWhere old new on before after (TellsTermImage on.proof.now put v) result
    (λ given. (scope_put on.proof.now put given).terms (variable_view on.proof.now.trees v) ∷ [])

abbrev pub AddsTermImages : {A E : Type 0} → Module → Module → Ground → List LpId → List LpId → Substitution → List Variable → Result A E → Type 0
AddsTermImages old new on before after put vs result =
    AddsWhere old new on before after (TellsTermImages on.proof.now put vs) result
    (λ given. map (scope_put on.proof.now put given).terms (variables_of on.proof.now.trees vs))

-- what proves the image of each of some hypotheses
abbrev pub AddsHypothesisImages : {A E : Type 0} → Module → Module → Ground → List LpId → List LpId → Substitution → List TermId → Result A E → Type 0
AddsHypothesisImages old new on before after put hyps result =
    OnOk result ((given : Given) (made : List Tree) → Ready given old on.proof.now.trees on.env.now before made
    → Ready given new on.proof.now.trees on.env.now after (made ++ map (scope_put on.proof.now put given).proofs (terms_at on.proof.now.trees hyps)))
