use Rattle.lp_kernel.proofs.Gathered.{AreGathered}
use Rattle.lp_kernel.proofs.spines.arguments.Given as goal

abbrev pub invariant-loop-function : goal.invariant-loop-function
invariant-loop-function l = AreGathered l.fn.base.table l.fn.k l.fn.f l.args.items l.left l.at

abbrev pub decreases-loop-function : goal.decreases-loop-function
decreases-loop-function l = l.left
