use Rattle.translate_laws.specs.ShapeStatements as law
use Rattle.translate_laws.proofs.theorems_shaped.Goals as goal

pub returns : goal.returns
returns c = law.theorems_shaped
