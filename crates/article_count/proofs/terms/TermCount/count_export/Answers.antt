use Rattle.std.proofs.Common.{refl, ap}
use Rattle.hol_rules.specs.Views.{step_at}
use Rattle.article_spec.specs.declared.commands.Word.TheVariants as word
use Rattle.article_write_spec.specs.ArticleLength.{count_premise}
use Rattle.article_write_spec.specs.Lengths.{capped, count_each, word_length}
use Rattle.article_lines.specs.Greatest.{greatest_length}
use Rattle.article_count.proofs.EachCounted.{adds-CountsTerms, can-then}
use Rattle.article_count.proofs.terms.TermCount.count_export.Goals as goal

pub count_parameters-requires-clause-count : goal.count_parameters-requires-clause-count
count_parameters-requires-clause-count c = can-then (λ q. count_each count_premise (step_at c.args.proof.now.made c.args.id).premises)
    (c.count_premises.ensures c.args.proof.now.trees) c.requires.count

pub returns : goal.returns
returns c steps q m h =
    let trees = c.args.proof.now.trees in
    let behind = adds-CountsTerms {trees = trees} (record c.count_parameters.new.self { count = c.add.new.self }) c.word_length.result (word_length word.Thm)
    (rw c.add.ensures refl) (ap (capped greatest_length) c.word_length.ensures) in
    behind steps q _ (c.in_ok-count_parameters.ensures steps q _ (c.count_premises.ensures trees steps q m h))
