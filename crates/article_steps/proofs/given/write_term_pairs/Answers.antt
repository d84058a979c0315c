use Rattle.article_steps.specs.Given.{term_pair_writer, term_pair_at}
use Rattle.article_steps.proofs.GivenLaws.{item-at, term_pairs-view, term_pair-known, term_pair-closed, appends-term_pair}
use Rattle.std.proofs.Common.{arith, length}
use Rattle.article_spec.specs.declared.commands.Word.TheVariants as word
use Rattle.article_write_spec.specs.Drafts.{Draft, say_word, conses}
use Rattle.article_steps.proofs.SaidLaws.{appends-listed}
use Rattle.article_steps.proofs.EachLaws.{adds-same, each-first, each-next, each-failed, each-done, list-viewed}
use Rattle.article_steps.proofs.given.write_term_pairs.Goals as goal

pub loop-pair-init : goal.loop-pair-init
loop-pair-init g c = record {
  adds = each-first (λ p. term_pair_writer c.args.number (term_pair_at c.args.terms.now p))
      (λ p. appends-term_pair c.args.number (term_pair_at c.args.terms.now p)) c.args.terms.now c.args.pairs.now c.args.keys.now c.args.room.now.room _ _
      c.requires.ready;
}

pub write_term_pair-requires-clause-ty : goal.write_term_pair-requires-clause-ty
write_term_pair-requires-clause-ty g c =
    (term_pair-known c.args.terms.now c.args.pairs.now c.loop-pair.pair-index _
    (item-at c.args.pairs.now c.loop-pair.pair-index c.pair-item.result c.pair-item.is c.loop-pair-test.true) c.requires.known).0

pub write_term_pair-requires-clause-known : goal.write_term_pair-requires-clause-known
write_term_pair-requires-clause-known g c =
    (term_pair-known c.args.terms.now c.args.pairs.now c.loop-pair.pair-index _
    (item-at c.args.pairs.now c.loop-pair.pair-index c.pair-item.result c.pair-item.is c.loop-pair-test.true) c.requires.known).1

pub write_term_pair-requires-clause-closed : goal.write_term_pair-requires-clause-closed
write_term_pair-requires-clause-closed g c = term_pair-closed c.args.terms.now c.args.pairs.now c.loop-pair.pair-index _
    (item-at c.args.pairs.now c.loop-pair.pair-index c.pair-item.result c.pair-item.is c.loop-pair-test.true) c.requires.closed

pub loop-pair-preserved : goal.loop-pair-preserved
loop-pair-preserved g c = record {
  adds = each-next (λ p. term_pair_writer c.args.number (term_pair_at c.args.terms.now p))
      (λ p. appends-term_pair c.args.number (term_pair_at c.args.terms.now p)) c.args.terms.now c.args.pairs.now c.loop-pair.pair-index c.pair-item.result _ _ _
      _ _ _ _ _ _ _ _ _ _ (item-at c.args.pairs.now c.loop-pair.pair-index c.pair-item.result c.pair-item.is c.loop-pair-test.true) c.in_ok-write_term_pair.was
      c.loop-pair.invariant.adds c.write_term_pair.ensures;
}

pub returns-in_err-write_term_pair : goal.returns-in_err-write_term_pair
returns-in_err-write_term_pair g c =
    adds-same c.args.terms.now _ _ _ _ _ _ _ _ _ _
    (list-viewed (term_pair_writer c.args.number) (term_pair_at c.args.terms.now) c.args.pairs.now _ (term_pairs-view c.args.terms.now c.args.pairs.now))
    (each-failed (λ p. term_pair_writer c.args.number (term_pair_at c.args.terms.now p))
    (λ p. appends-term_pair c.args.number (term_pair_at c.args.terms.now p)) c.args.terms.now c.args.pairs.now c.loop-pair.pair-index c.pair-item.result _ _
    _ _ _ _ _ _ _ _ _ _ _ _ _ (λ (d : Draft). conses (length c.args.pairs.now) (say_word word.Nil d)) (appends-listed (length c.args.pairs.now))
    (item-at c.args.pairs.now c.loop-pair.pair-index c.pair-item.result c.pair-item.is c.loop-pair-test.true) c.in_err-write_term_pair.was
    c.from_residual.ensures.0 c.loop-pair.invariant.adds c.write_term_pair.ensures)

pub returns : goal.returns
returns g c =
    adds-same c.args.terms.now _ _ _ _ _ _ _ _ _ _
    (list-viewed (term_pair_writer c.args.number) (term_pair_at c.args.terms.now) c.args.pairs.now _ (term_pairs-view c.args.terms.now c.args.pairs.now))
    (each-done (λ p. term_pair_writer c.args.number (term_pair_at c.args.terms.now p)) (λ p. appends-term_pair c.args.number (term_pair_at c.args.terms.now p))
    c.args.terms.now c.args.pairs.now c.loop-pair.pair-index _ _ _ _ _ _ _ _ _ _ _ _ (λ (d : Draft). conses (length c.args.pairs.now) (say_word word.Nil d))
    (appends-listed (length c.args.pairs.now)) (omega (arith, c.loop-pair-test.false, c.loop-pair.auto.pair-index-end)) c.loop-pair.invariant.adds
    c.end_list.ensures)
