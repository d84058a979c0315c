use Rattle.std.proofs.Common.{ℕ, suc, ◌-◌, length}
use Rattle.lp_kernel.specs.Noted.{IsLonger}
use Rattle.lp_kernel.proofs.memo.reach_to.Given as goal

abbrev pub invariant-loop-types : goal.invariant-loop-types
invariant-loop-types l = IsLonger l.fn.types.items l.types.items

abbrev pub decreases-loop-types : goal.decreases-loop-types
decreases-loop-types l = suc l.fn.place - length l.types.items
