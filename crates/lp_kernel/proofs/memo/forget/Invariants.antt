use Rattle.lp_kernel.specs.Noted.{IsForgotten}
use Rattle.lp_kernel.proofs.memo.forget.Given as goal

abbrev pub invariant-loop-place : goal.invariant-loop-place
invariant-loop-place l = IsForgotten l.fn.types.items l.types.items l.place l.fn.len
