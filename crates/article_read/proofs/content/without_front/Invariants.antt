use Rattle.std.proofs.Common.{◌≡◌, length}
use Rattle.article_spec.specs.Contents.{drop_blanks}
use Rattle.article_read.proofs.content.without_front.Given as goal

abbrev pub invariant-loop-line : goal.invariant-loop-line
invariant-loop-line l = drop_blanks l.line ≡ drop_blanks l.fn.line

abbrev pub decreases-loop-line : goal.decreases-loop-line
decreases-loop-line l = length l.line
