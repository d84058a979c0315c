use Rattle.std.proofs.Common.{refl, ap}
use Rattle.article_write_spec.specs.ArticleLength.{list_length}
use Rattle.article_write_spec.specs.Lengths.{add, capped, name_length}
use Rattle.article_lines.specs.Greatest.{greatest_length}
use Rattle.article_count.proofs.EachCounted.{adds-CountsTerms, can-then}
use Rattle.article_count.proofs.terms.TermCount.count_constant_pair.Goals as goal

pub count_free_variable-requires-clause-count : goal.count_free_variable-requires-clause-count
count_free_variable-requires-clause-count c = can-then (λ q. add (name_length c.args.pair.now.0)) (c.count_name.ensures c.args.terms.now) c.requires.count

pub returns : goal.returns
returns c steps q m h =
    let trees = c.args.terms.now in
    let behind = adds-CountsTerms (record c.count_free_variable.new.self { count = c.add.new.self }) c.list_length.result (list_length 2)
    (rw c.add.ensures refl) (ap (capped greatest_length) c.list_length.ensures) in
    behind steps q _ (c.in_ok-count_free_variable.ensures steps q _ (c.count_name.ensures trees steps q m h))
