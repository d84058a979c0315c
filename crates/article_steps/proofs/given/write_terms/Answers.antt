use Rattle.std.proofs.Common.{[], refl}
use Rattle.std.specs.Prelude.{slice_index_or}
use Rattle.hol_term.specs.Tables.{term_at}
use Rattle.article_write_spec.specs.WrittenTerms.{write_term}
use Rattle.article_steps.proofs.SaidLaws.{appends-under}
use Rattle.article_steps.proofs.GivenLaws.{item-here, term-known, term-closed}
use Rattle.std.proofs.Common.{arith, length}
use Rattle.article_spec.specs.declared.commands.Word.TheVariants as word
use Rattle.article_write_spec.specs.Drafts.{Draft, say_word, conses}
use Rattle.article_steps.proofs.SaidLaws.{appends-listed}
use Rattle.article_steps.proofs.EachLaws.{adds-same, each-first, each-next, each-failed, each-done, list-viewed}
use Rattle.article_steps.proofs.given.write_terms.Goals as goal

pub loop-id-init : goal.loop-id-init
loop-id-init g c = record {
  adds =
      each-first (λ id. write_term c.args.number (term_at c.args.terms.now id.0)) (λ id. appends-under c.args.number [] (term_at c.args.terms.now id.0))
      c.args.terms.now c.args.ids.now c.args.keys.now c.args.room.now.room _ _ c.requires.ready;
}

pub write_term-requires-clause-known : goal.write_term-requires-clause-known
write_term-requires-clause-known g c = term-known c.args.terms.now c.args.ids.now c.loop-id.id-index _
    (item-here c.args.ids.now c.loop-id.id-index (record { 0 = 0 }) c.loop-id-test.true) c.requires.known

pub write_term-requires-clause-closed : goal.write_term-requires-clause-closed
write_term-requires-clause-closed g c = term-closed c.args.terms.now c.args.ids.now c.loop-id.id-index _
    (item-here c.args.ids.now c.loop-id.id-index (record { 0 = 0 }) c.loop-id-test.true) c.requires.closed

pub loop-id-preserved : goal.loop-id-preserved
loop-id-preserved g c = record {
  adds = each-next (λ id. write_term c.args.number (term_at c.args.terms.now id.0)) (λ id. appends-under c.args.number [] (term_at c.args.terms.now id.0))
      c.args.terms.now c.args.ids.now c.loop-id.id-index (slice_index_or c.args.ids.now c.loop-id.id-index (record { 0 = 0 })) _ _ _ _ _ _ _ _ _ _ _ _ _
      (item-here c.args.ids.now c.loop-id.id-index (record { 0 = 0 }) c.loop-id-test.true) c.in_ok-write_term.was c.loop-id.invariant.adds c.write_term.ensures;
}

pub returns-in_err-write_term : goal.returns-in_err-write_term
returns-in_err-write_term g c =
    adds-same c.args.terms.now _ _ _ _ _ _ _ _ _ _ (list-viewed (write_term c.args.number) (λ id. term_at c.args.terms.now id.0) c.args.ids.now _ refl)
    (each-failed (λ id. write_term c.args.number (term_at c.args.terms.now id.0)) (λ id. appends-under c.args.number [] (term_at c.args.terms.now id.0))
    c.args.terms.now c.args.ids.now c.loop-id.id-index (slice_index_or c.args.ids.now c.loop-id.id-index (record { 0 = 0 })) _ _ _ _ _ _ _ _ _ _ _ _ _ _ _
    (λ (d : Draft). conses (length c.args.ids.now) (say_word word.Nil d)) (appends-listed (length c.args.ids.now))
    (item-here c.args.ids.now c.loop-id.id-index (record { 0 = 0 }) c.loop-id-test.true) c.in_err-write_term.was c.from_residual.ensures.0
    c.loop-id.invariant.adds c.write_term.ensures)

pub returns : goal.returns
returns g c =
    adds-same c.args.terms.now _ _ _ _ _ _ _ _ _ _ (list-viewed (write_term c.args.number) (λ id. term_at c.args.terms.now id.0) c.args.ids.now _ refl)
    (each-done (λ id. write_term c.args.number (term_at c.args.terms.now id.0)) (λ id. appends-under c.args.number [] (term_at c.args.terms.now id.0))
    c.args.terms.now c.args.ids.now c.loop-id.id-index _ _ _ _ _ _ _ _ _ _ _ _ (λ (d : Draft). conses (length c.args.ids.now) (say_word word.Nil d))
    (appends-listed (length c.args.ids.now)) (omega (arith, c.loop-id-test.false, c.loop-id.auto.id-index-end)) c.loop-id.invariant.adds c.end_list.ensures)
