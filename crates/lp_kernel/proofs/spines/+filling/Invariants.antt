use Rattle.std.proofs.Common.{suc, ◌*◌}
use Rattle.lp_kernel.proofs.spines.+filling.Given as goal

abbrev pub decreases-are_filled : goal.decreases-are_filled
decreases-are_filled l = 2 * l.levels

abbrev pub decreases-is_filled : goal.decreases-is_filled
decreases-is_filled l = suc (2 * l.levels)
