use Rattle.translate_term.specs.Patterns.{IsPart}
use Rattle.translate_term.proofs.generic.sole.Given as goal

abbrev pub invariant-loop-next : goal.invariant-loop-next
invariant-loop-next l = IsPart l.trees (record { pattern = l.fn.pattern; instance = l.fn.instance }) l.at

abbrev pub decreases-loop-next : goal.decreases-loop-next
decreases-loop-next l = l.at.pattern.0
