use Rattle.std.proofs.Common.{refl}
use Rattle.article_spec.specs.declared.commands.Item.TheVariants as item
use Rattle.article_write_spec.specs.Drafts.{say_name}
use Rattle.article_steps.proofs.SaidLaws.{appends-say}
use Rattle.article_steps.proofs.AddsLaws.{adds-say}
use Rattle.article_steps.proofs.GivenLaws.{item-at}
use Rattle.std.proofs.Common.{arith, length}
use Rattle.article_spec.specs.declared.commands.Word.TheVariants as word
use Rattle.article_write_spec.specs.Drafts.{Draft, say_word, conses}
use Rattle.article_steps.proofs.SaidLaws.{appends-listed}
use Rattle.article_steps.proofs.EachLaws.{adds-same, each-first, each-next, each-failed, each-done}
use Rattle.article_steps.proofs.given.write_names.Goals as goal

pub loop-name-init : goal.loop-name-init
loop-name-init g c = record
    { adds = each-first (say_name) (λ n. appends-say (item.Name n)) c.args.terms.now c.args.names.now c.args.keys.now c.args.room.now.room _ _ c.requires }

pub loop-name-preserved : goal.loop-name-preserved
loop-name-preserved g c = record {
  adds = each-next (say_name) (λ n. appends-say (item.Name n)) c.args.terms.now c.args.names.now c.loop-name.name-index c.name-item.result _ _ _ _ _ _ _ _ _ _ _
      _ _ (item-at c.args.names.now c.loop-name.name-index c.name-item.result c.name-item.is c.loop-name-test.true) c.in_ok-write_name.was
      c.loop-name.invariant.adds (adds-say c.args.terms.now (item.Name c.name-item.result) _ _ _ _ _ _ _ c.loop-name.invariant.adds.ready c.write_name.ensures);
}

pub returns-in_err-write_name : goal.returns-in_err-write_name
returns-in_err-write_name g c =
    adds-same c.args.terms.now _ _ _ _ _ _ _ _ _ _ (λ d. refl)
    (each-failed (say_name) (λ n. appends-say (item.Name n)) c.args.terms.now c.args.names.now c.loop-name.name-index c.name-item.result _ _ _ _ _ _ _ _ _ _ _ _
    _ _ _ (λ (d : Draft). conses (length c.args.names.now) (say_word word.Nil d)) (appends-listed (length c.args.names.now))
    (item-at c.args.names.now c.loop-name.name-index c.name-item.result c.name-item.is c.loop-name-test.true) c.in_err-write_name.was
    c.from_residual.ensures.0 c.loop-name.invariant.adds
    (adds-say c.args.terms.now (item.Name c.name-item.result) _ _ _ _ _ _ _ c.loop-name.invariant.adds.ready c.write_name.ensures))

pub returns : goal.returns
returns g c =
    adds-same c.args.terms.now _ _ _ _ _ _ _ _ _ _ (λ d. refl)
    (each-done (say_name) (λ n. appends-say (item.Name n)) c.args.terms.now c.args.names.now c.loop-name.name-index _ _ _ _ _ _ _ _ _ _ _ _
    (λ (d : Draft). conses (length c.args.names.now) (say_word word.Nil d)) (appends-listed (length c.args.names.now))
    (omega (arith, c.loop-name-test.false, c.loop-name.auto.name-index-end)) c.loop-name.invariant.adds c.end_list.ensures)
