use Rattle.std.specs.Prelude.{◌≡◌, ◌++◌, codes}
use Rattle.decode_spec.specs.ClosedText.{separated, type_variable_texts}
use Rattle.hol_text.proofs.add_type_variables.Given as goal

abbrev pub invariant-loop-number : goal.invariant-loop-number
invariant-loop-number l = l.text.items ≡ l.fn.text.items ++ separated (codes " ") (type_variable_texts 0 l.number)
