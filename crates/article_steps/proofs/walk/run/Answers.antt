use Rattle.std.proofs.Common.{refl, sym, subst, ◌<◌}
use Rattle.article_steps.specs.Agendas.{work}
use Rattle.article_steps.proofs.RunLaws.{running-first, running-popped, running-on, running-end, running-failed}
use Rattle.article_steps.proofs.walk.run.Goals as goal

pub loop-job-init : goal.loop-job-init
loop-job-init g c = record { running = running-first _ _ _ _ _ _ c.requires }

pub do_job-requires-clause-ready : goal.do_job-requires-clause-ready
do_job-requires-clause-ready g c = (running-popped _ _ _ _ _ _ _ _ _ _ _ _ c.in-Some.ensures.popped c.loop-job.invariant.running).ready

pub loop-job-preserved : goal.loop-job-preserved
loop-job-preserved g c = record {
  running = running-on _ _ _ _ _ _ _ _ _ _ _ _ _ _ _ _ c.in_ok-do_job.was
      (running-popped _ _ _ _ _ _ _ _ _ _ _ _ c.in-Some.ensures.popped c.loop-job.invariant.running) c.do_job.ensures;
}

pub loop-job-smaller : goal.loop-job-smaller
loop-job-smaller g c =
    subst (λ a. work c.args.terms.now c.args.number c.do_job.new.room.binders c.do_job.new.room.jobs < work c.args.terms.now c.args.number a.binders a.jobs)
    (sym c.in-Some.ensures.popped) c.in_ok-do_job.ensures.less

pub returns-in_err-do_job : goal.returns-in_err-do_job
returns-in_err-do_job g c =
    running-failed _ _ _ _ _ _ _ _ _ _ _ _ _ _ _ _ _ c.in_err-do_job.was c.from_residual.ensures.0
    (running-popped _ _ _ _ _ _ _ _ _ _ _ _ c.in-Some.ensures.popped c.loop-job.invariant.running) c.do_job.ensures

pub returns : goal.returns
returns g c = running-end _ _ _ _ _ _ _ _ _ _ _ _ _ refl c.in_default.ensures.none c.in_default.ensures.popped c.loop-job.invariant.running
