use Rattle.article_laws.specs.SoundSteps.{runs_are_sound}
use Rattle.article_laws.proofs.runs_are_sound.Goals as goal

pub returns : goal.returns
returns c = runs_are_sound
