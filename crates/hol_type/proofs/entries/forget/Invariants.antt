use Rattle.hol_type.specs.Numbered.{number_in}
use Rattle.hol_type.proofs.Numbering.{Forgotten}
use Rattle.hol_type.proofs.entries.forget.Given as goal

abbrev pub invariant-loop-number : goal.invariant-loop-number
invariant-loop-number l = Forgotten (number_in l.fn.numbers) (number_in l.numbers) l.fn.len l.number
