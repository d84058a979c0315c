use Rattle.std.proofs.Common.{take}
use Rattle.article_spec.specs.Lines.{IsLine}
use Rattle.article_read.proofs.lines.first_line.Given as goal

abbrev pub invariant-loop-i : goal.invariant-loop-i
invariant-loop-i l = IsLine (take l.i l.text)
