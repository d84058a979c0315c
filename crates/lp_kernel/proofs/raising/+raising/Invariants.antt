use Rattle.std.proofs.Common.{suc, ◌*◌}
use Rattle.lp_kernel.proofs.raising.+raising.Given as goal

abbrev pub decreases-application_raised : goal.decreases-application_raised
decreases-application_raised l = 2 * l.levels

abbrev pub decreases-raised_shallow : goal.decreases-raised_shallow
decreases-raised_shallow l = suc (2 * l.levels)
