use Rattle.std.specs.Prelude.{drop}
use Rattle.hol_defs.specs.Lists.{pairs_at, ArePairsKnown}
use Rattle.article_count.specs.GivenCounts.{constant_pair}
use Rattle.article_count.proofs.EachCounted.{IsEach}
use Rattle.article_count.proofs.terms.TermCount.count_constants.Given as goal

-- what is left comes to the same as the whole list
abbrev pub invariant-loop-pair : goal.invariant-loop-pair
invariant-loop-pair l = IsEach l.terms (ArePairsKnown l.terms) (pairs_at l.terms) (λ q. constant_pair) l.fn.self l.pairs (drop l.pair-index l.pairs) l.self
