-- Each move keeps a run sound, so all that an accepted run says derives.
use Rattle.std.proofs.Common.{ℕ, suc, ◌<◌, ◌≤◌, List, [], ◌∷◌, length, refl, arith}
use Rattle.std.specs.List.{AllByRecursion}
use Rattle.article_spec.specs.Ascending.{Ascend}
use Rattle.hol_spec.specs.Derivations.{Derives}
use Rattle.hol_spec.specs.Proofs.{steps_of, sequents_of, sequent_at, definitions_of, assumptions_of, Accepted}
use Rattle.hol_spec.specs.Proofs as made
use Rattle.hol_proof_laws.specs.ProofGrowth.{All-get}
use Rattle.hol_proof_laws.specs.StepsDerive.{proof-derives}
use Rattle.article_spec.specs.State.{State, initial}
use Rattle.article_spec.specs.Run.{accepted_state}
use Rattle.article_spec.specs.SoundRuns.{IsDerived, IsSoundRun, RunsAreSound}
use Rattle.article_laws.specs.KeptRuns.{any_item, every_run}
use Rattle.article_laws.specs.Moves.{Holds, Moves}
use Rattle.article_laws.specs.SoundBuilding.{type_variable-sound, free-sound, app-sound, abstraction-sound, operator-sound, constant-sound}
use Rattle.article_laws.specs.SoundDefining.{define_const-sound, define_const_list-sound, define_type_op-sound}
use Rattle.article_laws.specs.SoundInference.{follows}
use Rattle.article_laws.specs.SoundStates.{object-more, new-theorem, infer-more, at_step}
use Rattle.article_laws.specs.SoundStating.{meet-sound, assume-sound, export-sound}
use Rattle.article_laws.specs.Soundness.{soundness, HasSoundRun}
pub use Rattle.article_laws.specs.KeptRuns.{on_line}

-- each move keeps a run sound
pub sound_moves : Moves soundness
sound_moves = record {
  more = object-more;
  new_step = new-theorem;
  type_variable = λ m n h. type_variable-sound m n;
  variable = λ m v h k. k;
  free = free-sound;
  app = app-sound;
  abstracted = abstraction-sound;
  operator = λ s n ts u g h k e l. operator-sound s n ts u g k e l;
  constant = λ s n a u g h k e l. constant-sound s n a u g k e l;
  rule = λ s x g h l. let f = follows s g x h in infer-more s.made s.exports s.assumptions x g f.next f.inference l;
  define_const = λ s n t x g h k e l. define_const-sound s n t x g k e l;
  define_const_list = define_const_list-sound;
  define_type_op = λ s names j x g h w k e. define_type_op-sound s names j x g k e;
  meet = meet-sound;
  assume = λ s hs c x g h k e m l. assume-sound s hs c x g h k e l;
  export = λ s j hs c x g h k n e m l. export-sound s j hs c x g h k e l;
}

pub initial-run : HasSoundRun initial
initial-run = record { proof = made.Each.empty; over = made.Each.empty; exports = omega arith; assumptions = refl }

-- numbers that ascend within bounds have ordered bounds
pub Ascend-bounds : (low n : ℕ) (is : List ℕ) → Ascend low n is → low ≤ n
Ascend-bounds low n [] h = h
Ascend-bounds low n (i ∷ is) h = let rest = Ascend-bounds (suc i) n is h.1 in omega (arith, h.0, rest)

below : (low n : ℕ) (is : List ℕ) → Ascend low n is → AllByRecursion (λ i. i < n) is
below low n [] h = tt
below low n (i ∷ is) h = (let rest = Ascend-bounds (suc i) n is h.1 in omega (arith, rest), below (suc i) n is h.1)

exports-derive : (a : Accepted) → AllByRecursion (Derives (definitions_of a.made) (assumptions_of a.made)) (sequents_of a.made) → (is : List ℕ)
    → AllByRecursion (λ i. i < length (steps_of a.made)) is → AllByRecursion (IsDerived a) is
exports-derive a all [] h = tt
exports-derive a all (i ∷ is) h = (
  record {
    step = h.0;
    derives = All-get (Derives (definitions_of a.made) (assumptions_of a.made)) (sequents_of a.made) i (sequent_at a.made i) all
        (at_step a.made i h.0);
  },
  exports-derive a all is h.1,
)

sound-run : (s : State) → Holds soundness s → IsSoundRun (accepted_state s)
sound-run s h =
    let g = h.run in
    let all = proof-derives s.made g.proof in
    record {
      proof = g.proof;
      over = g.over;
      assumptions = g.assumptions;
      steps = all;
      ascend = g.exports;
      exports =
          exports-derive (accepted_state s) all s.exports (below 0 (length (steps_of s.made)) s.exports g.exports);
    }

-- The law of runs.
pub runs_are_sound : RunsAreSound
runs_are_sound articles a r = every_run soundness sound_moves (λ s p g. g) (λ s g. g) (λ m x. any_item x) IsSoundRun sound-run initial-run articles a r
