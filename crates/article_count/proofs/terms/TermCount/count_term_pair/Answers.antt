use Rattle.std.proofs.Common.{refl, ap}
use Rattle.hol_term.specs.Tables.{type_at}
use Rattle.article_write_spec.specs.ArticleLength.{list_length}
use Rattle.article_write_spec.specs.Lengths.{capped}
use Rattle.article_write_spec.specs.TermLengths.{count_variable}
use Rattle.article_lines.specs.Greatest.{greatest_length}
use Rattle.article_count.proofs.EachCounted.{adds-CountsTerms, can-then}
use Rattle.article_count.proofs.terms.TermCount.count_term_pair.Goals as goal

pub count_term-requires-clause-count : goal.count_term-requires-clause-count
count_term-requires-clause-count c = can-then (λ q. count_variable c.args.pair.now.0.name (type_at c.args.terms.now c.args.pair.now.0.ty.0))
    c.in_ok-count_free_variable.ensures c.requires.count

pub returns : goal.returns
returns c steps q m h =
    let behind = adds-CountsTerms {trees = c.args.terms.now} (record c.count_term.new.self { count = c.add.new.self }) c.list_length.result (list_length 2)
    (rw c.add.ensures refl) (ap (capped greatest_length) c.list_length.ensures) in
    behind steps q _ (c.in_ok-count_term.ensures steps q _ (c.in_ok-count_free_variable.ensures steps q m h))
