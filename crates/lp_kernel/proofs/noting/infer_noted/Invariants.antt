use Rattle.std.proofs.Common.{◌+◌, ◌*◌, length}
use Rattle.lp_kernel.specs.Pending.{weight_of}
use Rattle.lp_kernel.proofs.Levels.{IsNoting, load}
use Rattle.lp_kernel.proofs.noting.infer_noted.Given as goal

abbrev pub invariant-loop-next : goal.invariant-loop-next
invariant-loop-next l = IsNoting l.fn.memo.turns.rechecks l.fn.base l.base l.fn.id l.fn.budget.left l.budget.left l.outer l.state l.next l.memo

abbrev pub decreases-loop-next : goal.decreases-loop-next
decreases-loop-next l = 4 * l.budget.left + 2 * length l.state.frames + weight_of l.next + load l.outer
