-- What proves hypotheses where a tree of its own proves one of them.
use Rattle.std.specs.Prelude.{◌<◌, List, length, if◌then◌else◌, IfOk, Option, Some, None, Result}
use Rattle.hol_spec.specs.Proofs.{sequent_at}
use Rattle.hol_spec.specs.Terms.{Term, term_eq}
use Rattle.hol_term.specs.declared.TermId.{TermId}
use Rattle.hol_term.specs.Tables.{Trees, term_at}
use Rattle.holide_sig.specs.declared.module.Module.{Module}
use Rattle.lp_spec.specs.Trees.{Tree}
use Rattle.lp_term.specs.declared.LpId.{LpId}
use Rattle.lp_term.specs.Tables.{Holds}
use Rattle.translate_spec.specs.Scopes.{Scope, theorem_tree}
use Rattle.translate_proof.specs.declared.ground.Ground.{Ground}
use Rattle.translate_proof.specs.declared.premise.Premise.{Premise}
use Rattle.translate_proof.specs.declared.premise.Proved.{Proved}
use Rattle.translate_proof.specs.declared.scope.Environment.{Environment}
use Rattle.translate_proof.specs.Environments.{Given, Represents}
use Rattle.translate_proof.specs.Told.{TellsStep}

-- the tree that proves the one hypothesis, if there is one
abbrev pub IsPut : Trees → List Tree → Option Proved → Tree → Type 0
IsPut terms trees None x = Unit {0}
IsPut terms trees (Some p) x = (p.id.0 < length terms.terms) × Holds trees p.tree.0 x

-- what proves a hypothesis there
abbrev pub proof_with : Trees → Option Proved → Tree → (Term → Tree) → Term → Tree
proof_with terms None x proofs h = proofs h
proof_with terms (Some p) x proofs h = if term_eq h (term_at terms p.id.0) then x else proofs h

abbrev pub scope_proved : Trees → Option Proved → Tree → Scope → Scope
scope_proved terms proved x scope = record { types = scope.types; terms = scope.terms; proofs = proof_with terms proved x scope.proofs; bounds = scope.bounds }

-- what is made is a premise as a theorem there
abbrev pub MakesTheorem : {E : Type 0} → Module → Module → Ground → Option Proved → Premise → Result LpId E → Type 0
MakesTheorem old new on proved one result =
    IfOk result (λ r. (given : Given) (x : Tree) → Represents given old on.proof.now.trees on.env.now → IsPut on.proof.now.trees old.table proved x
    → TellsStep given on.proof.now one.id
    → Holds new.table r.0 (theorem_tree (scope_proved on.proof.now.trees proved x given.scope) one.symbol (sequent_at on.proof.now.made one.id)))

-- what is made proves a hypothesis, by a tree of its own or not
abbrev pub MakesProof : {E : Type 0} → Module → Module → Environment → TermId → Result LpId E → Type 0
MakesProof old new env id result =
    IfOk result (λ r. (given : Given) (terms : Trees) → Represents given old terms env → id.0 < length terms.terms
    → Holds new.table r.0 (given.scope.proofs (term_at terms id.0)))

abbrev pub MakesProofWith : {E : Type 0} → Module → Module → Environment → TermId → Option Proved → Result LpId E → Type 0
MakesProofWith old new env id proved result =
    IfOk result (λ r. (given : Given) (terms : Trees) (x : Tree) → Represents given old terms env → id.0 < length terms.terms → IsPut terms old.table proved x
    → Holds new.table r.0 (proof_with terms proved x given.scope.proofs (term_at terms id.0)))
