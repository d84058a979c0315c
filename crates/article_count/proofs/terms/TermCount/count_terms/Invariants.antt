use Rattle.std.specs.Prelude.{drop}
use Rattle.hol_term.specs.Tables.{terms_at, AreKnown}
use Rattle.article_write_spec.specs.TermLengths.{count_under}
use Rattle.article_count.proofs.EachCounted.{IsEach}
use Rattle.article_count.proofs.terms.TermCount.count_terms.Given as goal

-- what is left comes to the same as the whole list
abbrev pub invariant-loop-id : goal.invariant-loop-id
invariant-loop-id l = IsEach l.terms (AreKnown l.terms) (terms_at l.terms) (λ q. count_under q 0) l.fn.self l.ids (drop l.id-index l.ids) l.self
