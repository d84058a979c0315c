use Rattle.article_steps.specs.Agendas.{work}
use Rattle.article_steps.proofs.RunLaws.{Running}
use Rattle.article_steps.proofs.walk.run.Given as goal

-- what was gone over, and what is left
abbrev pub invariant-loop-job : goal.invariant-loop-job
invariant-loop-job g l = record {
  running : Running l.terms l.number l.fn.room l.fn.keys (g.S.Sink.got l.fn.sink) (g.S.Sink.faults l.fn.sink) l.room l.keys (g.S.Sink.got l.sink)
      (g.S.Sink.faults l.sink);
}

abbrev pub decreases-loop-job : goal.decreases-loop-job
decreases-loop-job g l = work l.terms l.number l.room.binders l.room.jobs
