-- The conclusion of a step, by its number.
use Rattle.std.proofs.Common.{◌≡◌, ℕ, ◌<◌, sym, ap, subst}
use Rattle.hol_spec.specs.Primitives.{bool}
use Rattle.hol_spec.specs.Sequents.{Sequent}
use Rattle.hol_spec.specs.Proofs.{sequent_at, IsProof}
use Rattle.hol_term.specs.Tables.{term_at}
use Rattle.hol_rules.specs.Kept.{Kept, step_count}
use Rattle.sequent.specs.declared.Sequent.{Sequent as NumberSequent}
use Rattle.sequent.specs.Sequents as numbers
use Rattle.translate_proof.specs.Environments.{Given, IsTold}
use Rattle.translate_proof.specs.Told.{TellsStep}
use Rattle.translate_proof.proofs.SequentLaws.{typed-closed}
use Rattle.translate_proof.specs.StepSequents.{step-IsSequent}

-- the term of its number is the conclusion
pub conclusion-same : (k : Kept) (id : ℕ) (s : NumberSequent) → numbers.sequent_at k.trees s ≡ sequent_at k.made id → term_at k.trees s.concl.0
    ≡ (sequent_at k.made id).conclusion
conclusion-same k id s is = ap (λ (t : Sequent). t.conclusion) is

pub conclusion-told : (k : Kept) (id : ℕ) → id < step_count k → IsProof k.made → (s : NumberSequent) → numbers.sequent_at k.trees s ≡ sequent_at k.made id
    → numbers.IsKnown k.trees s → (given : Given) → TellsStep given k id → IsTold given (term_at k.trees s.concl.0)
conclusion-told k id l p s is known given told =
    subst (IsTold given) (sym (conclusion-same k id s is))
    (record { told = told.conclusion; closed = typed-closed (sequent_at k.made id).conclusion bool (step-IsSequent k.made p id l).conclusion })
