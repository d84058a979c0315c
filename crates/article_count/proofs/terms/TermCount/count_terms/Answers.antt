use Rattle.std.proofs.Common.{arith, length, refl, sym}
use Rattle.std.proofs.lemmas.List.{length-map}
use Rattle.article_count.proofs.EachCounted.{each-begins, each-can, each-turn, each-turned, list-ends}
use Rattle.article_count.proofs.terms.TermCount.count_terms.Goals as goal

pub loop-id-init : goal.loop-id-init
loop-id-init c = each-begins c.requires.known

pub count_term-requires-clause-count : goal.count_term-requires-clause-count
count_term-requires-clause-count c = each-can c.loop-id.invariant c.requires.count

pub count_term-requires-clause-id : goal.count_term-requires-clause-id
count_term-requires-clause-id c = (each-turn c.loop-id.id-index _ c.loop-id-test.true c.loop-id.invariant).known.0

pub loop-id-preserved : goal.loop-id-preserved
loop-id-preserved c = each-turned c.loop-id.id-index _ _ c.loop-id-test.true refl (λ k. k.1) c.in_ok-count_term.ensures c.loop-id.invariant

pub returns : goal.returns
returns c =
    list-ends c.loop-id.id-index (length c.args.ids.now) c.loop-id.self (record c.loop-id.self { count = c.add.new.self }) (omega (arith, c.loop-id-test.false))
    refl (sym (length-map c.args.ids.now _)) (rw (c.add.ensures, c.list_length.ensures) refl) c.loop-id.invariant
