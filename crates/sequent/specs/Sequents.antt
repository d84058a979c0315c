-- Sequents over a table of terms, by numbers and as trees.
use Rattle.std.specs.Prelude.{◌<◌, ◌==◌, List, length, Bool}
use Rattle.hol_spec.specs.Terms.{Term}
use Rattle.hol_spec.specs.Sequents.{Sequent as ASequent}
use Rattle.hol_term.specs.declared.TermId.{TermId}
use Rattle.hol_term.specs.Tables.{Trees, term_at, terms_at, AreKnown}
use Rattle.sequent.specs.declared.Sequent.{Sequent}

-- whether two numbers are one
abbrev pub same_id : TermId → TermId → Bool
same_id p q = p.0 == q.0

-- the trees of hypotheses
abbrev pub hyps_at : Trees → List TermId → List Term
hyps_at trees ids = terms_at trees ids

-- the sequent of trees that a sequent of numbers is
abbrev pub sequent_at : Trees → Sequent → ASequent
sequent_at trees s = record { hypotheses = hyps_at trees s.hyps; conclusion = term_at trees s.concl.0 }

-- its numbers are of the table
abbrev pub IsKnown : Trees → Sequent → Type 0
IsKnown trees s = AreKnown trees s.hyps × (s.concl.0 < length trees.terms)
