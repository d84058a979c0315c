use Rattle.lp_term.proofs.MeasuredLaws.{AreMeasured-more}
use Rattle.lp_term.proofs.measures.push_measures.Goals as goal

pub returns-clause-pushed : goal.returns-clause-pushed
returns-clause-pushed c = λ trees a. rw c.in_ok-push.ensures.pushed (AreMeasured-more _ _ _ _ a (c.in_ok-measures.ensures trees a))
