-- What is added to the arguments of a call, in each scope for which an environment stands.
use Rattle.std.specs.Prelude.{ℕ, ◌<◌, List, [], ◌∷◌, ◌++◌, length, map, OnOk, Option, Result}
use Rattle.hol_term.specs.declared.TermId.{TermId}
use Rattle.hol_term.specs.declared.Variable.{Variable}
use Rattle.hol_term.specs.Tables.{Trees, term_at, terms_at, AreKnown}
use Rattle.hol_type.specs.declared.table.TypeId.{TypeId}
use Rattle.holide_sig.specs.declared.module.Module.{Module}
use Rattle.lp_spec.specs.Modules.{term_of}
use Rattle.lp_spec.specs.Trees.{Tree, App, Lam, Sym}
use Rattle.lp_term.specs.declared.LpId.{LpId}
use Rattle.lp_term.specs.Tables.{tree_at}
use Rattle.translate_proof.specs.declared.ground.Ground.{Ground}
use Rattle.translate_proof.specs.declared.premise.Premise.{Premise}
use Rattle.translate_proof.specs.declared.premise.Proved.{Proved}
use Rattle.translate_proof.specs.declared.scope.Environment.{Environment}
use Rattle.translate_proof.specs.Environments.{Given, Ready}
use Rattle.translate_proof.specs.Grounds.{type_row, term_row, variable_row, variable_rows, AddsWhere, TellsTermAt, TellsTypeAt, TellsVariables}
use Rattle.translate_proof.specs.ProvedHypotheses.{proof_with, IsPut}
use Rattle.translate_proof.specs.RuleRows.{theorem_row}
use Rattle.translate_proof.specs.Told.{TellsStep}

-- the tree of a type
abbrev pub AddsType : {A E : Type 0} → Module → Module → Ground → List LpId → List LpId → TypeId → Result A E → Type 0
AddsType old new on before after id result =
    AddsWhere old new on before after (TellsTypeAt on.proof.now id) result (λ given. type_row on.proof.now id given ∷ [])

-- that of a term
abbrev pub AddsTerm : {A E : Type 0} → Module → Module → Ground → List LpId → List LpId → TermId → Result A E → Type 0
AddsTerm old new on before after id result =
    AddsWhere old new on before after (TellsTermAt on.proof.now id) result (λ given. term_row on.proof.now id given ∷ [])

-- what stands for a free variable, and for several
abbrev pub AddsVariable : {A E : Type 0} → Module → Module → Ground → List LpId → List LpId → Variable → Result A E → Type 0
AddsVariable old new on before after v result =
    AddsWhere old new on before after (TellsTypeAt on.proof.now v.ty) result (λ given. variable_row on.proof.now v given ∷ [])

abbrev pub AddsVariables : {A E : Type 0} → Module → Module → Ground → List LpId → List LpId → List Variable → Result A E → Type 0
AddsVariables old new on before after vs result = AddsWhere old new on before after (TellsVariables on.proof.now vs) result (variable_rows on.proof.now vs)

-- what proves a hypothesis, and what proves several where a tree of its own may prove one
abbrev pub AddsProof : {A E : Type 0} → Module → Module → Environment → List LpId → List LpId → TermId → Result A E → Type 0
AddsProof old new env before after id result =
    OnOk result ((given : Given) (terms : Trees) (made : List Tree) → Ready given old terms env before made → id.0 < length terms.terms
    → Ready given new terms env after (made ++ given.scope.proofs (term_at terms id.0) ∷ []))

abbrev pub AddsProofs : {A E : Type 0} → Module → Module → Environment → List LpId → List LpId → List TermId → Option Proved → Result A E → Type 0
AddsProofs old new env before after hyps proved result =
    OnOk result ((given : Given) (terms : Trees) (x : Tree) (made : List Tree) → Ready given old terms env before made → AreKnown terms hyps
    → IsPut terms old.table proved x
    → Ready given new terms env after (made ++ map (proof_with terms proved x given.scope.proofs) (terms_at terms hyps)))

-- a premise as a theorem
abbrev pub AddsTheorem : {A E : Type 0} → Module → Module → Ground → List LpId → List LpId → Premise → Result A E → Type 0
AddsTheorem old new on before after one result =
    AddsWhere old new on before after (λ given. TellsStep given on.proof.now one.id) result (λ given. theorem_row on.proof.now one given ∷ [])

-- an abstraction over the terms of a type, whose body is the tree of a term
abbrev pub AddsFunction : {A E : Type 0} → Module → Module → Ground → List LpId → List LpId → LpId → TermId → Result A E → Type 0
AddsFunction old new on before after domain id result =
    AddsWhere old new on before after (TellsTermAt on.proof.now id) result
    (λ given. Lam (term_of (tree_at old.table domain.0)) (term_row on.proof.now id given) ∷ [])

-- an abstraction over what a symbol gives at an index, whose body is a premise as a theorem
abbrev pub AddsAbstracted : {A E : Type 0} → Module → Module → Ground → List LpId → List LpId → ℕ → LpId → Premise → Result A E → Type 0
AddsAbstracted old new on before after family index one result =
    AddsWhere old new on before after (λ given. TellsStep given on.proof.now one.id) result
    (λ given. Lam (App (Sym family) (tree_at old.table index.0)) (theorem_row on.proof.now one given) ∷ [])
