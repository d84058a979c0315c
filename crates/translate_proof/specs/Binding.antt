-- What an environment stands for once binders are placed for parameters, or the innermost binder is bound.
use Rattle.std.specs.Prelude.{ℕ, ◌<◌, List, length}
use Rattle.hol_spec.specs.NameEquality.{name_eq}
use Rattle.hol_spec.specs.Names.{Name}
use Rattle.hol_spec.specs.Terms.{Term, Variable as ATerm, term_eq, variable_eq}
use Rattle.hol_type.specs.Tables as type
use Rattle.hol_term.specs.declared.TermId.{TermId}
use Rattle.hol_term.specs.declared.Variable.{Variable}
use Rattle.hol_term.specs.Subterms.{HaveTypes, variables_of}
use Rattle.hol_term.specs.Tables.{Trees, term_at, terms_at, AreKnown, IsDistinct}
use Rattle.hol_rules.specs.Views.{variable_view}
use Rattle.holide_sig.specs.declared.module.Module.{Module}
use Rattle.lp_spec.specs.Trees.{Tree, Var}
use Rattle.lp_term.specs.declared.LpId.{LpId}
use Rattle.translate_spec.specs.Scopes.{TypeScope, set_proof, set_term}
use Rattle.sequent.specs.declared.params.Params.{Params}
use Rattle.translate_proof.specs.declared.scope.Environment.{Environment}
use Rattle.translate_proof.specs.Environments.{Given, Represents, TellProofs, TellTerms, TellTypes}
use Rattle.translate_proof.specs.Placed.{placed}
use Rattle.translate_proof.specs.Placing.{IsPlaced}
use Rattle.translate_proof.specs.Rescoped.{with_scope}

-- it stands where the binders outside so many more stand for these parameters
abbrev pub StandsPlaced : Module → Module → List Name → List Variable → List TermId → ℕ → Environment → Type 0
StandsPlaced old new names variables hyps inside env =
    (given : Given) (trees : Trees) → IsPlaced given old trees names variables hyps inside → Represents given new trees env

-- it stands where the one more stands for a variable, and where it proves a formula
abbrev pub StandsUnderVariable : Module → Module → Params → List TermId → Variable → Environment → Type 0
StandsUnderVariable old new params hyps v env =
    (given : Given) (trees : Trees) → IsPlaced given old trees params.type_vars params.free_vars hyps 1 → v.ty.0 < length trees.types
    → Represents (with_scope given (set_term (variable_view trees v) (Var 0) given.scope)) new trees env

abbrev pub StandsUnderProof : Module → Module → Params → List TermId → TermId → Environment → Type 0
StandsUnderProof old new params hyps id env =
    (given : Given) (trees : Trees) → IsPlaced given old trees params.type_vars params.free_vars hyps 1 → id.0 < length trees.terms
    → Represents (with_scope given (set_proof (term_at trees id.0) (Var 0) given.scope)) new trees env

-- one that stood stands once the innermost binder is let stand for a variable, or prove a formula
abbrev pub BindsVariable : Module → Module → Environment → Variable → Environment → Type 0
BindsVariable old new before v after =
    (given : Given) (trees : Trees) → Represents given old trees before → v.ty.0 < length trees.types
    → Represents (with_scope given (set_term (variable_view trees v) (Var 0) given.scope)) new trees after

abbrev pub BindsProof : Module → Module → Environment → TermId → Environment → Type 0
BindsProof old new before id after =
    (given : Given) (trees : Trees) → Represents given old trees before → id.0 < length trees.terms
    → Represents (with_scope given (set_proof (term_at trees id.0) (Var 0) given.scope)) new trees after

-- binders from the outermost of so many on are placed for type variables, for free variables, and for hypotheses
abbrev pub PlacesTypes : List Tree → List Tree → List (Name × LpId) → List Name → ℕ → List (Name × LpId) → Type 0
PlacesTypes old new before names depth after =
    (scope : TypeScope) → TellTypes old before scope → TellTypes new after (placed name_eq depth names scope)

abbrev pub PlacesTerms : List Tree → List Tree → List (Variable × LpId) → List Variable → ℕ → List (Variable × LpId) → Type 0
PlacesTerms old new before variables depth after =
    (trees : Trees) (other scope : ATerm → Tree) → type.IsDistinct trees.types → HaveTypes trees variables
    → TellTerms trees.types old before other scope
    → TellTerms trees.types new after other (placed variable_eq depth (variables_of trees variables) scope)

abbrev pub PlacesProofs : List Tree → List Tree → List (TermId × LpId) → List TermId → ℕ → List (TermId × LpId) → Type 0
PlacesProofs old new before hyps depth after =
    (trees : Trees) (other scope : Term → Tree) → IsDistinct trees.terms → AreKnown trees hyps
    → TellProofs trees old before other scope
    → TellProofs trees new after other (placed term_eq depth (terms_at trees hyps) scope)
