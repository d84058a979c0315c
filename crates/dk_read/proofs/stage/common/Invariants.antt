use Rattle.std.proofs.Common.{◌≡◌, ◌+◌, length}
use Rattle.dk_read.specs.Texts.{common}
use Rattle.dk_read.proofs.stage.common.Given as goal

abbrev pub invariant-loop-left : goal.invariant-loop-left
invariant-loop-left l = record {
  alike : l.count + common l.left l.right ≡ common l.fn.one l.fn.two;
  one : l.count + length l.left ≡ length l.fn.one;
  two : l.count + length l.right ≡ length l.fn.two;
}

abbrev pub decreases-loop-left : goal.decreases-loop-left
decreases-loop-left l = length l.left
