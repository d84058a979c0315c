use Rattle.std.proofs.Common.{suc, ◌*◌}
use Rattle.lp_kernel.proofs.spines.+making.Given as goal

abbrev pub decreases-made : goal.decreases-made
decreases-made l = suc (2 * l.levels)

abbrev pub decreases-parts_made : goal.decreases-parts_made
decreases-parts_made l = 2 * l.levels
