use Rattle.std.specs.Prelude.{◌≡◌, ◌++◌, codes, map, take}
use Rattle.decode_spec.specs.ClosedText.{separated, variable_texts}
use Rattle.sequent.specs.Closed.{closed_type_view}
use Rattle.hol_text.proofs.add_variables.Given as goal

abbrev pub invariant-loop-number : goal.invariant-loop-number
invariant-loop-number l = l.text.items ≡ l.fn.text.items ++ separated (codes " ") (variable_texts 0 (map closed_type_view (take l.number l.types)))
