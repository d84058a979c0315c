use Rattle.std.proofs.lemmas.Result.{on_ok_weaker}
use Rattle.hol_term.specs.Tables.{term_at}
use Rattle.article_write_spec.specs.Lengths.{add, name_length}
use Rattle.article_write_spec.specs.TermLengths.{count_under}
use Rattle.article_count.proofs.EachCounted.{can-then, counts-then}
use Rattle.article_count.proofs.terms.TermCount.count_named.Goals as goal

pub count_term-requires-clause-count : goal.count_term-requires-clause-count
count_term-requires-clause-count c = can-then (λ q. add (name_length c.args.name.now)) (c.count_name.ensures c.args.terms.now) c.requires.count

pub returns : goal.returns
returns c = on_ok_weaker c.count_term.result
    (λ counts. counts-then (λ q. add (name_length c.args.name.now)) (λ q. count_under q 0 (term_at c.args.terms.now c.args.id.0))
    (c.count_name.ensures c.args.terms.now) counts) c.count_term.ensures
