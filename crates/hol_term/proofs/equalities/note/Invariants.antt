use Rattle.std.proofs.Common.{◌+◌, ◌-◌, length}
use Rattle.hol_term.proofs.equalities.note.Given as goal

abbrev pub decreases-loop-numbers : goal.decreases-loop-numbers
decreases-loop-numbers l = l.place + 1 - length l.numbers.items
