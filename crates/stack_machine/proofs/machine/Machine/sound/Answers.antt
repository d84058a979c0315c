use Rattle.article_spec.specs.Run.{accepted_state}
use Rattle.article_laws.specs.SoundSteps.{runs_are_sound}
use Rattle.stack_machine.proofs.machine.Machine.sound.Goals as goal

pub returns : goal.returns
returns c articles run = runs_are_sound articles (accepted_state c.args.self.now) run
