-- What is shown of rules and of proofs, as statements; the crate `hol_proof_laws` proves them.
use Rattle.std.specs.Prelude.{List}
use Rattle.std.specs.List.{AllByRecursion}
use Rattle.hol_spec.specs.Sequents.{Sequent, IsSequent}
use Rattle.hol_spec.specs.Rules.{Parameters, Rule}
use Rattle.hol_spec.specs.Derivations.{Derives}
use Rattle.hol_spec.specs.Proofs.{Made, IsProof, sequents_of, definitions_of, assumptions_of}
use Rattle.hol_spec.specs.declared.StepKind.{StepKind}

-- Each rule makes sequents of sequents: hypotheses without repeats and a conclusion, all of type `bool`.
abbrev pub RulesGiveSequents : Type 0
RulesGiveSequents = (kind : StepKind) (premises : List Sequent) (parameters : Parameters) (s : Sequent) → Rule kind premises parameters s
    → AllByRecursion IsSequent premises → IsSequent s

-- What each step of a proof says derives from the proof's definitions and assumptions.
abbrev pub ProofsDerive : Type 0
ProofsDerive = (made : List Made) → IsProof made → AllByRecursion (Derives (definitions_of made) (assumptions_of made)) (sequents_of made)
