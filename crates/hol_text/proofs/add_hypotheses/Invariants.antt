use Rattle.std.specs.Prelude.{◌≡◌, ◌++◌, codes, map, take}
use Rattle.decode_spec.specs.ClosedText.{separated, hypothesis_texts}
use Rattle.sequent.specs.Closed.{closed_term_view}
use Rattle.hol_text.proofs.add_hypotheses.Given as goal

abbrev pub invariant-loop-place : goal.invariant-loop-place
invariant-loop-place l = l.text.items ≡ l.fn.text.items ++ separated (codes ", ") (hypothesis_texts (map closed_term_view (take l.place l.hyps)))
