use Rattle.translate_laws.specs.ShapeStatements as law
use Rattle.translate_laws.proofs.modules_priced.Goals as goal

pub returns : goal.returns
returns c = law.modules_priced
