use Rattle.std.proofs.Common.{take}
use Rattle.article_reach.specs.FoundPairs.{terms_put}
use Rattle.article_reach.specs.Looked.{WalksOn}
use Rattle.article_reach.proofs.walk.Walk.want_terms.Given as goal

abbrev pub invariant-loop-pair : goal.invariant-loop-pair
invariant-loop-pair l = WalksOn l.proof (terms_put l.proof.trees (take l.pair-index l.terms)) l.fn.self l.self
