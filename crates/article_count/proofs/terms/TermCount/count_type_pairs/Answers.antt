use Rattle.std.proofs.Common.{arith, length, refl}
use Rattle.article_count.proofs.GivenWalks.{types-length}
use Rattle.article_count.proofs.EachCounted.{each-begins, each-can, each-item, item-turned, list-ends}
use Rattle.article_count.proofs.terms.TermCount.count_type_pairs.Goals as goal

pub loop-pair-init : goal.loop-pair-init
loop-pair-init c = each-begins c.requires.known

pub count_type_pair-requires-clause-count : goal.count_type_pair-requires-clause-count
count_type_pair-requires-clause-count c = each-can c.loop-pair.invariant c.requires.count

pub count_type_pair-requires-clause-ty : goal.count_type_pair-requires-clause-ty
count_type_pair-requires-clause-ty c = (each-item c.loop-pair.pair-index c.pair-item.result c.pair-item.is c.loop-pair-test.true c.loop-pair.invariant).known.0

pub loop-pair-preserved : goal.loop-pair-preserved
loop-pair-preserved c = item-turned c.loop-pair.pair-index c.pair-item.result _ c.pair-item.is c.loop-pair-test.true refl (λ k. k.1)
    c.in_ok-count_type_pair.ensures c.loop-pair.invariant

pub returns : goal.returns
returns c =
    list-ends c.loop-pair.pair-index (length c.args.pairs.now) c.loop-pair.self (record c.loop-pair.self { count = c.add.new.self })
    (omega (arith, c.loop-pair-test.false)) refl (types-length c.args.terms.now.types c.args.pairs.now) (rw (c.add.ensures, c.list_length.ensures) refl)
    c.loop-pair.invariant
