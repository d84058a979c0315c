use Rattle.translate_reach.specs.MadeItems.{IsLooked}
use Rattle.translate_reach.proofs.reached.Given as goal

abbrev pub invariant-loop-item : goal.invariant-loop-item
invariant-loop-item l = IsLooked l.proof l.exports l.walk l.flags.items l.item

abbrev pub decreases-loop-item : goal.decreases-loop-item
decreases-loop-item l = l.item
