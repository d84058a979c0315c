use Rattle.std.specs.Prelude.{◌≡◌, ◌+◌, ◌*◌, ◌++◌, length}
use Rattle.decode_spec.specs.ClosedText.{term_text}
use Rattle.sequent.specs.Closed.{closed_term_view, spelled_terms}
use Rattle.hol_text.specs.Works.{terms_left_text}
use Rattle.hol_text.proofs.walk.add_term.Given as goal

abbrev pub invariant-loop-work : goal.invariant-loop-work
invariant-loop-work l = l.text.items ++ terms_left_text l.works (spelled_terms l.nodes) ≡ l.fn.text.items ++ term_text (closed_term_view l.term) 0

abbrev pub decreases-loop-work : goal.decreases-loop-work
decreases-loop-work l = length l.works + 4 * length l.nodes
