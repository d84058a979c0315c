use Rattle.std.proofs.Common.{length}
use Rattle.hol_rules.proofs.Chaining.{IsLinking}
use Rattle.hol_rules.proofs.substitution.linked.Given as goal

abbrev pub invariant-loop-rest : goal.invariant-loop-rest
invariant-loop-rest l = IsLinking l.fn.terms l.terms l.fn.ids l.rest l.fn.last l.whole

abbrev pub decreases-loop-rest : goal.decreases-loop-rest
decreases-loop-rest l = length l.rest
