use Rattle.lp_spec.specs.Trees.{Pi}
use Rattle.translate_rule.proofs.GenericLaws.{IsUnder}
use Rattle.translate_rule.proofs.generics.over_types.Given as goal

abbrev pub invariant-loop-left : goal.invariant-loop-left
invariant-loop-left l = IsUnder Pi l.fn.table l.table l.count l.left l.fn.inside l.product

abbrev pub decreases-loop-left : goal.decreases-loop-left
decreases-loop-left l = l.left
