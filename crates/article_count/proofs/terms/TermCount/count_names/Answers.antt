use Rattle.std.proofs.Common.{arith, length, refl}
use Rattle.article_count.proofs.EachCounted.{each-begins, item-turned, list-ends}
use Rattle.article_count.proofs.terms.TermCount.count_names.Goals as goal

pub loop-name-init : goal.loop-name-init
loop-name-init c = λ trees. each-begins (tt {0})

pub loop-name-preserved : goal.loop-name-preserved
loop-name-preserved c = λ trees. item-turned c.loop-name.name-index c.name-item.result c.name-item.result c.name-item.is c.loop-name-test.true refl
    (λ k. tt {0}) (c.count_name.ensures trees) (c.loop-name.invariant trees)

pub returns : goal.returns
returns c trees =
    list-ends c.loop-name.name-index (length c.args.names.now) c.loop-name.self (record c.loop-name.self { count = c.add.new.self })
    (omega (arith, c.loop-name-test.false)) refl refl (rw (c.add.ensures, c.list_length.ensures) refl) (c.loop-name.invariant trees)
