use Rattle.hol_type.specs.Matchings.{IsMatching, total}
use Rattle.hol_type.proofs.matching.matched.Given as goal

abbrev pub invariant-loop-part : goal.invariant-loop-part
invariant-loop-part l = IsMatching l.fn.general l.fn.instance l.table l.matching.tasks l.matching.found.items l.matching.met

abbrev pub decreases-loop-part : goal.decreases-loop-part
decreases-loop-part l = total l.table l.matching.tasks
