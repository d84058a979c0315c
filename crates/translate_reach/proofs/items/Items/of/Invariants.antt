use Rattle.std.proofs.Common.{drop}
use Rattle.translate_reach.specs.MadeItems.{AreTaken}
use Rattle.translate_reach.proofs.items.Items.of.Given as goal

abbrev pub invariant-loop-one : goal.invariant-loop-one
invariant-loop-one l = AreTaken l.proof (drop l.one-index l.one-items) l.items l.symbol
