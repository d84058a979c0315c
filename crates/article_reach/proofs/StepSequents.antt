-- The sequent of a step.
use Rattle.std.proofs.Common.{◌≡◌, ℕ, zero, suc, List, [], ◌∷◌, map, refl}
use Rattle.std.specs.Prelude.{slice_index_or}
use Rattle.hol_spec.specs.Proofs.{Made, Step, steps_of, sequent_at}
use Rattle.hol_rules.specs.Views.{step_at}

place-map : (xs : List Step) (k : ℕ) (d : Step) → (slice_index_or xs k d).sequent ≡ slice_index_or (map (λ (x : Step). x.sequent) xs) k d.sequent
place-map [] k d = refl
place-map (x ∷ xs) zero d = refl
place-map (x ∷ xs) (suc k) d = place-map xs k d

pub step-sequent : (made : List Made) (id : ℕ) → (step_at made id).sequent ≡ sequent_at made id
step-sequent made id = place-map (steps_of made) id _
