use Rattle.lp_kernel.proofs.Reached.{IsReach}
use Rattle.lp_kernel.proofs.products.reach.Given as goal

abbrev pub invariant-loop-domain : goal.invariant-loop-domain
invariant-loop-domain l = IsReach l.fn.base l.fn.id l.fn.budget.left l.base l.reached l.budget.left

abbrev pub decreases-loop-domain : goal.decreases-loop-domain
decreases-loop-domain l = l.budget.left
