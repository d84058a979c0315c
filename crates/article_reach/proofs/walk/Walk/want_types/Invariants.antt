use Rattle.std.proofs.Common.{take}
use Rattle.article_reach.specs.FoundPairs.{types_put}
use Rattle.article_reach.specs.Looked.{WalksOn}
use Rattle.article_reach.proofs.walk.Walk.want_types.Given as goal

abbrev pub invariant-loop-pair : goal.invariant-loop-pair
invariant-loop-pair l = WalksOn l.proof (types_put l.proof.trees (take l.pair-index l.types)) l.fn.self l.self
