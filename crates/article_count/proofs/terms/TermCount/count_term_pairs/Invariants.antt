use Rattle.std.specs.Prelude.{drop}
use Rattle.hol_term.specs.Substitutions.{term_pairs_at, AreTermPairsKnown}
use Rattle.article_count.specs.GivenCounts.{term_pair}
use Rattle.article_count.proofs.EachCounted.{IsEach}
use Rattle.article_count.proofs.terms.TermCount.count_term_pairs.Given as goal

-- what is left comes to the same as the whole list
abbrev pub invariant-loop-pair : goal.invariant-loop-pair
invariant-loop-pair l = IsEach l.terms (AreTermPairsKnown l.terms) (term_pairs_at l.terms) term_pair l.fn.self l.pairs (drop l.pair-index l.pairs) l.self
