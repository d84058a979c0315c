use Rattle.lp_term.specs.Tables.{tree_at}
use Rattle.lp_kernel.proofs.Filled.{IsSought}
use Rattle.lp_kernel.proofs.spines.argument.Given as goal

abbrev pub invariant-loop-function : goal.invariant-loop-function
invariant-loop-function l = IsSought l.fn.base.table l.fn.k l.fn.f l.fn.n l.left l.at l.number

abbrev pub decreases-loop-function : goal.decreases-loop-function
decreases-loop-function l = l.left
