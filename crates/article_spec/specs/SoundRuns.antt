-- Accepted runs are sound: what was made is a proof, over what is taken and within the limits, and all that it says derives.
use Rattle.std.specs.Prelude.{◌≡◌, ℕ, ◌<◌, ◌+◌, List, [], ◌∷◌, length, if◌then◌else◌}
use Rattle.std.specs.List.{AllByRecursion}
use Rattle.article_spec.specs.Ascending.{Ascend}
use Rattle.hol_spec.specs.Derivations.{infers, Derives}
use Rattle.hol_spec.specs.Proofs.{Step, steps_of, sequents_of, sequent_at, definitions_of, assumptions_of, IsProof, Accepted}
use Rattle.hol_spec.specs.Over.{IsOver}
use Rattle.article_spec.specs.Run.{accepted, Run}

-- The numbers of the steps that infer nothing, in order; the first step has number k.
abbrev pub assumed_from : ℕ → List Step → List ℕ
assumed_from k [] = []
assumed_from k (x ∷ xs) = if infers x.kind then assumed_from (k + 1) xs else k ∷ assumed_from (k + 1) xs

-- What a step of a run says derives from the run's definitions and assumptions.
pub record IsDerived (a : Accepted) (i : ℕ) : Type 0 where
  pub step : i < length (steps_of a.made)
  pub derives : Derives (definitions_of a.made) (assumptions_of a.made) (sequent_at a.made i)

pub record IsSoundRun (a : Accepted) : Type 0 where
  pub proof : IsProof a.made
  pub over : IsOver a.made
  pub assumptions : a.assumptions ≡ assumed_from 0 (steps_of a.made)
  pub steps : AllByRecursion (Derives (definitions_of a.made) (assumptions_of a.made)) (sequents_of a.made)
  pub ascend : Ascend 0 (length (steps_of a.made)) a.exports
  pub exports : AllByRecursion (IsDerived a) a.exports

abbrev pub RunsAreSound : Type 0
RunsAreSound = (articles : List (List ℕ)) (a : Accepted) → Run articles (accepted a) → IsSoundRun a
