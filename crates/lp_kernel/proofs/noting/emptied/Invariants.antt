use Rattle.std.proofs.Common.{length}
use Rattle.lp_kernel.proofs.noting.emptied.Given as goal

abbrev pub decreases-loop-frame : goal.decreases-loop-frame
decreases-loop-frame l = length l.frames
