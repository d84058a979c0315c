-- The words that state a sequent: `axiom`, which assumes it where nothing earlier has it, and `thm`, which exports it.
-- Source: the OpenTheory article file format, version 6, "Commands". That an article's exports meet the assumptions of later ones, and that `thm` may weaken, is this machine's own.
use Rattle.std.specs.Prelude.{ℕ, [], ◌∷◌, ◌++◌, Option, None, Some, Result, Ok}
use Rattle.std.specs.Option.{option_or}
use Rattle.common.specs.declared.faults.Kind.{Kind}
use Rattle.hol_spec.specs.Proofs.{Step}
use Rattle.hol_spec.specs.declared.StepKind.TheVariants as by_rule
use Rattle.article_spec.specs.State.{State}
use Rattle.article_spec.specs.Results.{◌>>=◌, ◌>>◌}
use Rattle.article_spec.specs.Operands.{as_term, as_terms, as_theorem, pop}
use Rattle.article_spec.specs.Conditions.{sequent_in_limits}
use Rattle.article_spec.specs.Changes.{with_stack, with_step, next_step, conclude, first_same}
use Rattle.article_spec.specs.RuleSteps.{axiom_step, restate_step, restatement}

-- A sequent that an earlier step has is restated; else its step is the next assumption.
abbrev pub assume_or_meet : State → Step → Option ℕ → Result State Kind
assume_or_meet s x (Some i) = conclude s (restatement i x.sequent)
assume_or_meet s x None = conclude (record s { assumptions = s.assumptions ++ next_step s ∷ [] }) x

-- What earlier articles exported comes before the assumptions.
abbrev pub axiom_word : State → Result State Kind
axiom_word s = do
  (conclusion, below) ← pop as_term s.stack
  (hypotheses, rest) ← pop as_terms below
  x ← axiom_step hypotheses conclusion
  assume_or_meet (with_stack s rest) x (option_or (first_same s s.pool x.sequent) (first_same s s.assumptions x.sequent))

-- A sequent that was exported is not exported again; else its step is the next export.
abbrev pub export : State → Step → Option ℕ → Result State Kind
export s x (Some earlier) = Ok s
export s x None = do
  sequent_in_limits x.sequent
  Ok (record (with_step s x) { exports = s.exports ++ next_step s ∷ [] })

-- The step restates the theorem.
abbrev pub thm : State → Result State Kind
thm s = do
  (conclusion, below) ← pop as_term s.stack
  (hypotheses, below_hypotheses) ← pop as_terms below
  (i, rest) ← pop as_theorem below_hypotheses
  x ← restate_step s.made i hypotheses conclusion
  export (with_stack s rest) x (first_same s s.exports x.sequent)
