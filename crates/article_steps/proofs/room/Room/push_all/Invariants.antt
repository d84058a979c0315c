use Rattle.std.proofs.Common.{◌≡◌, take}
use Rattle.article_steps.specs.Agendas.{pushed_all}
use Rattle.article_steps.proofs.room.Room.push_all.Given as goal

-- the jobs up to here are there
abbrev pub invariant-loop-job : goal.invariant-loop-job
invariant-loop-job l = l.self ≡ pushed_all (take l.job-index l.jobs) l.fn.self
