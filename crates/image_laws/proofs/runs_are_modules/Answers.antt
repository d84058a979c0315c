use Rattle.image_laws.specs.RunModules as law
use Rattle.image_laws.proofs.runs_are_modules.Goals as goal

pub returns : goal.returns
returns c = law.runs_are_modules
