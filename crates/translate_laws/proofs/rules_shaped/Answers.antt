use Rattle.translate_laws.specs.ShapeStatements as law
use Rattle.translate_laws.proofs.rules_shaped.Goals as goal

pub returns : goal.returns
returns c = law.rules_shaped
