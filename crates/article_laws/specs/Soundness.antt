-- What is true of every state of a run: what was made is a proof, over the symbols that are taken and within the limits, and so is each object.
use Rattle.std.specs.Prelude.{◌≡◌, ℕ, ◌<◌, List, length, true, is_some}
use Rattle.hol_spec.specs.Names.{Name}
use Rattle.hol_spec.specs.Terms.{Term, Variable, type_of}
use Rattle.hol_spec.specs.Limits.{TypeWithin, TermWithin}
use Rattle.hol_spec.specs.Proofs.{Made, symbols_of, steps_of, IsProof}
use Rattle.article_spec.specs.SoundRuns.{assumed_from}
use Rattle.article_spec.specs.Ascending.{Ascend}
use Rattle.hol_spec.specs.Taken.{TypeTaken, TermTaken}
use Rattle.hol_spec.specs.Over.{IsOver}
use Rattle.article_spec.specs.State.{Object, State}
use Rattle.article_laws.specs.Moves.{Invariant, RunHas}
use Rattle.article_laws.specs.OperandParts as operands
use Rattle.article_laws.specs.Parts.{Parts, IsOf}

-- A term that stands on its own: typed, over what is taken, within the limits.
pub record IsTermObject (made : List Made) (t : Term) : Type 0 where
  pub typed : is_some (type_of t) ≡ true
  pub taken : TermTaken (symbols_of made) t
  pub within : TermWithin t

abbrev pub sound_parts : List Made → Parts
sound_parts made = record {
  name = λ n. Unit {0};
  type = λ t. TypeTaken (symbols_of made) t × TypeWithin t;
  variable = λ v. TypeTaken (symbols_of made) v.1 × TypeWithin v.1;
  term = IsTermObject made;
  step = λ i. i < length (steps_of made);
}

-- the number of a step, and a name with a variable, as operands
abbrev pub IsStepNumber : List Made → ℕ → Type 0
IsStepNumber made i = (sound_parts made).step i

abbrev pub IsConstantPair : List Made → Name × Variable → Type 0
IsConstantPair made q = operands.IsConstantPair (sound_parts made) q

abbrev pub IsObject : List Made → Object → Type 0
IsObject made x = IsOf (sound_parts made) x

-- of what was made, of the exports and of the assumptions, by their numbers
pub record IsSoundlyMade (made : List Made) (is js : List ℕ) : Type 0 where
  pub proof : IsProof made
  pub over : IsOver made
  pub exports : Ascend 0 (length (steps_of made)) is
  pub assumptions : js ≡ assumed_from 0 (steps_of made)

abbrev pub soundness : Invariant
soundness = record { parts = sound_parts; run = λ place made exports assumptions pool. IsSoundlyMade made exports assumptions }

-- the run of a state
abbrev pub HasSoundRun : State → Type 0
HasSoundRun s = RunHas soundness s
