use Rattle.article_trial_laws.specs.TrialArticles.{trials_are_accepted}
use Rattle.article_trial_laws.proofs.trials_are_accepted.Goals as goal

pub returns : goal.returns
returns c = trials_are_accepted
