use Rattle.std.proofs.Common.{take}
use Rattle.article_reach.specs.FoundPairs.{constants_put}
use Rattle.article_reach.specs.Looked.{WalksOn}
use Rattle.article_reach.proofs.walk.Walk.want_constants.Given as goal

abbrev pub invariant-loop-pair : goal.invariant-loop-pair
invariant-loop-pair l = WalksOn l.proof (constants_put l.proof.trees (take l.pair-index l.pairs)) l.fn.self l.self
