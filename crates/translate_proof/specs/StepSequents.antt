-- The sequents of a proof's steps are sequents.
use Rattle.std.proofs.Common.{◌≡◌, ℕ, zero, suc, ◌<◌, refl, arith, List, [], ◌∷◌, length, map, Some, slice_get}
use Rattle.std.specs.Prelude.{slice_index_or}
use Rattle.hol_spec.specs.Terms.{Term}
use Rattle.hol_spec.specs.Sequents.{IsSequent}
use Rattle.hol_spec.specs.Proofs.{Made, Step, steps_of, sequents_of, sequent_at, IsProof}
use Rattle.hol_proof_laws.specs.ProofGrowth.{All-get, proof-sequents}

-- a step's sequent is the one with its number
pub at_step : (m : List Made) (i : ℕ) → i < length (steps_of m) → slice_get (sequents_of m) i ≡ Some (sequent_at m i)
at_step m i l = from (steps_of m) i l
  where
    from : (xs : List Step) (i : ℕ) → i < length xs → slice_get (map (λ (y : Step). y.sequent) xs) i
        ≡ Some (slice_index_or (map (λ (y : Step). y.sequent) xs) i (record { hypotheses = []; conclusion = Term.bound 0 }))
    from [] i l = absurd (omega arith)
    from (x ∷ xs) zero l = refl
    from (x ∷ xs) (suc i) l = from xs i (omega arith)

-- a step of a proof says a sequent
pub step-IsSequent : (m : List Made) → IsProof m → (i : ℕ) → i < length (steps_of m) → IsSequent (sequent_at m i)
step-IsSequent m p i l = All-get IsSequent (sequents_of m) i (sequent_at m i) (proof-sequents m p) (at_step m i l)
