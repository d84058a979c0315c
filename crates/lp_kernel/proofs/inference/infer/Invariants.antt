use Rattle.std.proofs.Common.{◌+◌, ◌*◌, length, true}
use Rattle.lp_kernel.specs.Pending.{weight_of}
use Rattle.lp_kernel.proofs.Looped.{IsLoop}
use Rattle.lp_kernel.proofs.inference.infer.Given as goal

abbrev pub invariant-loop-next : goal.invariant-loop-next
invariant-loop-next l = IsLoop true l.fn.base l.base l.fn.ctx l.fn.id l.fn.budget.left l.budget.left l.state l.next l.turns l.lifts

abbrev pub decreases-loop-next : goal.decreases-loop-next
decreases-loop-next l = 4 * l.budget.left + 2 * length l.state.frames + weight_of l.next
