-- What the words of inference do once their operands are off the stack.
-- Source: OpenTheory article file format, versions 5 and 6, "Commands".
use Rattle.std.specs.Prelude.{◌≡◌, ℕ, List, ◌∷◌, [], ◌++◌, Option, Result, Ok, IfOk, IfErr, OnOk, OnErr}
use Rattle.std.specs.Option.{option_or}
use Rattle.std.specs.List.{find}
use Rattle.common.specs.declared.faults.Fault.{Fault}
use Rattle.common.specs.declared.faults.Kind.{Kind}
use Rattle.hol_spec.specs.Terms.{Term}
use Rattle.hol_spec.specs.Sequents.{Sequent, same}
use Rattle.hol_spec.specs.Proofs.{Step, sequent_at}
use Rattle.article_spec.specs.RuleSteps.{axiom_step, restate_step}
use Rattle.article_spec.specs.State.{State}
use Rattle.article_spec.specs.State as state
use Rattle.article_spec.specs.Results.{◌>>=◌, ◌>>◌, Fails}
use Rattle.article_spec.specs.Conditions.{sequent_in_limits}
use Rattle.article_spec.specs.Changes.{conclude, first_same, next_step, with_step}
use Rattle.article_spec.specs.Stating.{assume_or_meet, export}
use Rattle.stack_machine.specs.Stored.{Stored, IsStep, Grows}
use Rattle.stack_machine.specs.Shown.{in_state}

-- what `axiom` states is met, or it is the next assumption
abbrev pub assuming : List Term → Term → State → Result State Kind
assuming hypotheses conclusion s = do
  x ← axiom_step hypotheses conclusion
  assume_or_meet s x (option_or (first_same s s.pool x.sequent) (first_same s s.assumptions x.sequent))

-- what `thm` states is the next export, unless it was exported
abbrev pub exporting : ℕ → List Term → Term → State → Result State Kind
exporting i hypotheses conclusion s = do
  x ← restate_step s.made i hypotheses conclusion
  export s x (first_same s s.exports x.sequent)

-- what is stated becomes the next assumption
abbrev pub recording : List Term → Term → State → Result State Kind
recording hypotheses conclusion s = do
  x ← axiom_step hypotheses conclusion
  conclude (record s { assumptions = s.assumptions ++ next_step s ∷ [] }) x

-- a step is made and becomes the next export, and nothing is pushed
abbrev pub exported : State → Step → Result State Kind
exported s x = do
  sequent_in_limits x.sequent
  Ok (record (with_step s x) { exports = s.exports ++ next_step s ∷ [] })

-- a theorem is restated as the next export
abbrev pub restating : ℕ → List Term → Term → State → Result State Kind
restating i hypotheses conclusion s = do
  x ← restate_step s.made i hypotheses conclusion
  exported s x

-- the first of some steps that says a sequent
abbrev pub first_saying : Stored → Sequent → List ℕ → Option ℕ
first_saying m sequent ids = find (λ i. same (sequent_at m.run.made i) sequent) ids

-- The run becomes that of a word's next state, in which the theorem of a step that was made is pushed; or the word is refused as its definition says. What had a number keeps it. After a fault the run is as before.
pub record Infers (old : Stored) (obeyed : State → Result State Kind) (new : Stored) (result : Result ℕ Fault) : Type 0 where
  pub taken : IfOk result (λ i. (s : State) (below : List state.Object) → obeyed (in_state s below old.run)
      ≡ Ok (in_state s (state.Object.theorem i ∷ below) new.run))
  pub made : IfOk result (λ i. IsStep new i)
  pub refused : IfErr result (λ fault. (s : State) (below : List state.Object) → Fails fault (obeyed (in_state s below old.run)))
  pub run : OnErr result (new.run ≡ old.run)
  pub grows : Grows old new

-- The same of a word that pushes nothing.
pub record Exports (old : Stored) (obeyed : State → Result State Kind) (new : Stored) (result : Result (Unit {0}) Fault) : Type 0 where
  pub taken : OnOk result ((s : State) (below : List state.Object) → obeyed (in_state s below old.run) ≡ Ok (in_state s below new.run))
  pub refused : IfErr result (λ fault. (s : State) (below : List state.Object) → Fails fault (obeyed (in_state s below old.run)))
  pub run : OnErr result (new.run ≡ old.run)
  pub grows : Grows old new

-- The same of a word that pushes the theorems of two steps, the second on top.
pub record InfersTwo (old : Stored) (obeyed : State → Result State Kind) (new : Stored) (result : Result (ℕ × ℕ) Fault) : Type 0 where
  pub taken : IfOk result (λ ids. (s : State) (below : List state.Object) → obeyed (in_state s below old.run)
      ≡ Ok (in_state s (state.Object.theorem ids.1 ∷ state.Object.theorem ids.0 ∷ below) new.run))
  pub made : IfOk result (λ ids. IsStep new ids.0 × IsStep new ids.1)
  pub refused : IfErr result (λ fault. (s : State) (below : List state.Object) → Fails fault (obeyed (in_state s below old.run)))
  pub run : OnErr result (new.run ≡ old.run)
  pub grows : Grows old new
