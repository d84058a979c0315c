use Rattle.std.proofs.Common.{◌∙◌, ap, sym, subst, arith, length}
use Rattle.article_steps.specs.Agenda.{Agenda}
use Rattle.article_steps.specs.Agendas.{pushed_all}
use Rattle.article_steps.specs.Left.{IsReady}
use Rattle.article_steps.proofs.AddsLaws.{adds-agenda}
use Rattle.article_steps.proofs.trees.write_jobs.Goals as goal

pub push_all-requires : goal.push_all-requires
push_all-requires g c =
    let count = ap (λ (a : Agenda). length a.jobs) c.clear.ensures in
    let room = ap (λ (a : Agenda). a.room) c.clear.ensures in
    omega (arith, count, room, c.requires.room)

pub run-requires : goal.run-requires
run-requires g c = subst (λ a. IsReady c.args.terms.now c.args.number a c.args.keys.now)
    (sym (c.push_all.ensures ∙ ap (pushed_all c.args.jobs.now) c.clear.ensures)) c.requires.ready

pub returns : goal.returns
returns g c = adds-agenda c.args.terms.now c.args.number _ _ _ _ _ _ _ _ _ _ (c.push_all.ensures ∙ ap (pushed_all c.args.jobs.now) c.clear.ensures)
    c.run.ensures
