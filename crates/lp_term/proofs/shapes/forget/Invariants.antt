use Rattle.std.proofs.Common.{ℕ, ◌≡◌, ◌<◌, Some, length}
use Rattle.std.specs.Prelude.{◌-◌}
use Rattle.lp_term.specs.declared.shape.Shape.{Shape}
use Rattle.lp_term.specs.Indexed.{kept_in}
use Rattle.lp_term.proofs.shapes.forget.Given as goal

abbrev pub invariant-loop-shape : goal.invariant-loop-shape
invariant-loop-shape l = (s : Shape) (n : ℕ) → n < l.fn.len → kept_in l.fn.others s ≡ Some n → kept_in l.others s ≡ Some n

abbrev pub decreases-loop-shape : goal.decreases-loop-shape
decreases-loop-shape l = length l.fn.shapes - l.number
