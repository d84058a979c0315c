use Rattle.article_reach.specs.Looked.{IsLooked}
use Rattle.article_reach.proofs.walk.Walk.look_all.Given as goal

abbrev pub invariant-loop-step : goal.invariant-loop-step
invariant-loop-step l = IsLooked l.proof l.exports l.self l.told.items l.step

abbrev pub decreases-loop-step : goal.decreases-loop-step
decreases-loop-step l = l.step
