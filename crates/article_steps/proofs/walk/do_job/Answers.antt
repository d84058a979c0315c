use Rattle.std.proofs.Common.{◌∙◌, refl, sym}
use Rattle.article_spec.specs.declared.commands.Item.TheVariants as item
use Rattle.article_lines.specs.WritingLaws.{writes_same}
use Rattle.article_steps.proofs.SaidLaws.{one-line}
use Rattle.article_steps.proofs.AgendaLaws.{goes-on, goes-quiet, goes-keys, goes-job, ready-job}
use Rattle.article_steps.proofs.JobSteps.{thing-more, key-of, word-said, keep-next, binder-ends}
use Rattle.article_steps.proofs.walk.do_job.Goals as goal

pub keep-requires-clause-new : goal.keep-requires-clause-new
keep-requires-clause-new g c =
    let trees = c.args.terms.now in
    let keys = c.args.keys.now in
    let r = ready-job trees c.args.number c.args.room.now _ _ keys c.in-Keep.is c.requires.ready in
    sym (key-of trees c.args.number c.args.room.now keys c.in-Keep.thing r.known
    (thing-more trees c.args.number c.args.room.now keys keys.theorems c.in-Keep.thing r.jobs.0.known)) ∙ r.jobs.0.new

pub returns-in-Arguments : goal.returns-in-Arguments
returns-in-Arguments g c =
    let r = ready-job c.args.terms.now c.args.number c.args.room.now _ _ c.args.keys.now c.in-Arguments.is c.requires.ready in
    goes-job _ _ _ _ _ _ _ _ _ _ _ _ _ c.in-Arguments.is (goes-quiet _ _ _ _ _ _ _ _ _ _ _ refl refl r (c.do_arguments.ensures c.args.number c.args.keys.now r))

pub returns-in-Word : goal.returns-in-Word
returns-in-Word g c =
    let r = ready-job c.args.terms.now c.args.number c.args.room.now _ _ c.args.keys.now c.in-Word.is c.requires.ready in
    goes-job _ _ _ _ _ _ _ _ _ _ _ _ _ c.in-Word.is
    (goes-on _ _ _ _ _ _ _ _ _ _ _ _ _ refl r (word-said _ _ _ _ c.in-Word.word r) (writes_same _ _ (one-line (item.Word c.in-Word.word)) c.write_word.ensures))

pub returns-in-Conses : goal.returns-in-Conses
returns-in-Conses g c =
    let r = ready-job c.args.terms.now c.args.number c.args.room.now _ _ c.args.keys.now c.in-Conses.is c.requires.ready in
    goes-job _ _ _ _ _ _ _ _ _ _ _ _ _ c.in-Conses.is (c.do_conses.ensures c.args.terms.now c.args.number c.args.keys.now r)

pub returns-in-Keep : goal.returns-in-Keep
returns-in-Keep g c =
    let r = ready-job c.args.terms.now c.args.number c.args.room.now _ _ c.args.keys.now c.in-Keep.is c.requires.ready in
    goes-job _ _ _ _ _ _ _ _ _ _ _ _ _ c.in-Keep.is
    (goes-keys _ _ _ _ _ _ _ _ _ _ _ _ c.keep.ensures.kept
    (goes-on _ _ _ _ _ _ _ _ _ _ _ _ _ refl r (keep-next _ _ _ _ c.in-Keep.thing _ refl r) c.keep.ensures.writes))

pub returns-in-Unbind : goal.returns-in-Unbind
returns-in-Unbind g c =
    let r = ready-job c.args.terms.now c.args.number c.args.room.now _ _ c.args.keys.now c.in-Unbind.is c.requires.ready in
    goes-job _ _ _ _ _ _ _ _ _ _ _ _ _ c.in-Unbind.is (goes-quiet _ _ _ _ _ _ _ _ _ _ _ refl c.unbind.ensures r (binder-ends _ _ _ _ r))
