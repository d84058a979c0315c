use Rattle.std.proofs.Common.{refl, ap}
use Rattle.hol_term.specs.Tables.{type_at}
use Rattle.article_write_spec.specs.ArticleLength.{list_length}
use Rattle.article_write_spec.specs.Lengths.{add, capped, name_length}
use Rattle.article_write_spec.specs.TermLengths.{count_type}
use Rattle.article_lines.specs.Greatest.{greatest_length}
use Rattle.article_count.proofs.EachCounted.{adds-CountsTerms, can-then}
use Rattle.article_count.proofs.GivenWalks.{lifted, type-Grows}
use Rattle.article_count.proofs.terms.TermCount.count_type_pair.Goals as goal

pub count_type-requires-clause-count : goal.count_type-requires-clause-count
count_type-requires-clause-count c =
    let can = can-then (λ q. add (name_length c.args.pair.now.0)) (c.count_name.ensures c.args.terms.now) c.requires.count in
    (can.0, can.2, can.3.tally)

pub returns : goal.returns
returns c steps q m h =
    let trees = c.args.terms.now in
    let ty = type_at trees c.args.pair.now.1.0 in
    let type_counted = lifted {trees = trees} {c = c.count_name.new.self} c.count_type.new.self (count_type ty) (type-Grows ty) c.in_ok-count_type.ensures in
    let behind = adds-CountsTerms {trees = trees} {c = record c.count_name.new.self { count = c.count_type.new.self }}
    (record c.count_name.new.self { count = c.add.new.self }) c.list_length.result (list_length 2) (rw c.add.ensures refl)
    (ap (capped greatest_length) c.list_length.ensures) in
    behind steps q _ (type_counted steps q _ (c.count_name.ensures trees steps q m h))
