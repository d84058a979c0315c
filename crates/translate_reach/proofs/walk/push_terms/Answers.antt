use Rattle.std.proofs.Common.{◌∙◌, ◌-◌, arith, length}
use Rattle.std.proofs.lemmas.List.{length-take}
use Rattle.translate_reach.specs.declared.walk.Task.TheVariants as task
use Rattle.translate_reach.proofs.Stacked.{stacked-front}
use Rattle.translate_reach.proofs.walk.push_terms.Goals as goal

pub loop-rest-preserved : goal.loop-rest-preserved
loop-rest-preserved c = (
  rw c.in_ok-push.ensures.pushed (stacked-front task.Term c.loop-rest.rest.now _ c.loop-rest.tasks c.in-len1-up.len_at_least ∙ c.loop-rest.invariant.0),
  omega (arith, c.loop-rest.invariant.1, length-take (length c.loop-rest.rest.now - 1) c.loop-rest.rest.now),
)
