use Rattle.std.proofs.Common.{◌<◌, get_or, arith, refl, subst}
use Rattle.std.specs.List.{AllByRecursion}
use Rattle.std.proofs.lemmas.List.{drop_more}
use Rattle.article_count.proofs.EachCounted.{each-begins, each-turned, each-ends}
use Rattle.article_count.proofs.StepParts.{premise-counted}
use Rattle.article_count.proofs.terms.TermCount.count_theorems.Goals as goal

pub loop-id-init : goal.loop-id-init
loop-id-init c = record { room = refl; known = c.requires; each = λ trees. each-begins (tt {0}) }

pub key_length-length-requires : goal.key_length-length-requires
key_length-length-requires c =
    let known = subst (AllByRecursion (λ i. i < c.args.self.now.count.keys.theorems)) (drop_more c.args.ids.now c.loop-id.id-index 0 c.loop-id-test.true)
    c.loop-id.invariant.known in
    omega (arith, known.0, c.loop-id.invariant.room)

pub loop-id-preserved : goal.loop-id-preserved
loop-id-preserved c =
    let id = get_or c.args.ids.now c.loop-id.id-index 0 in
    let known = subst (AllByRecursion (λ i. i < c.args.self.now.count.keys.theorems)) (drop_more c.args.ids.now c.loop-id.id-index 0 c.loop-id-test.true)
    c.loop-id.invariant.known in
    let there : id < c.loop-id.self.count.keys.theorems = omega (arith, known.0, c.loop-id.invariant.room) in
    record {
      room = rw c.add.ensures c.loop-id.invariant.room;
      known = known.1;
      each = λ trees. each-turned c.loop-id.id-index 0 id c.loop-id-test.true refl (λ k. tt {0})
          (premise-counted {c = c.loop-id.self} id (record c.loop-id.self { count = c.add.new.self }) there
          (rw (c.add.ensures, c.key_length-length.ensures) refl)) (c.loop-id.invariant.each trees);
    }

pub returns : goal.returns
returns c trees = each-ends c.loop-id.id-index c.loop-id.self (omega (arith, c.loop-id-test.false)) refl (c.loop-id.invariant.each trees)
