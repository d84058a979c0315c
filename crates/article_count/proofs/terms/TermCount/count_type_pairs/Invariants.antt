use Rattle.std.specs.Prelude.{drop}
use Rattle.hol_type.specs.Tables as type
use Rattle.article_count.specs.GivenCounts.{type_pair}
use Rattle.article_count.proofs.EachCounted.{IsEach}
use Rattle.article_count.proofs.terms.TermCount.count_type_pairs.Given as goal

-- what is left comes to the same as the whole list
abbrev pub invariant-loop-pair : goal.invariant-loop-pair
invariant-loop-pair l = IsEach l.terms (type.ArePairsKnown l.terms.types) (type.pairs_at l.terms.types) (λ q. type_pair) l.fn.self l.pairs
    (drop l.pair-index l.pairs) l.self
