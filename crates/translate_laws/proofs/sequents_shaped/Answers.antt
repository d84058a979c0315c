use Rattle.translate_laws.specs.ShapeStatements as law
use Rattle.translate_laws.proofs.sequents_shaped.Goals as goal

pub returns : goal.returns
returns c = law.sequents_shaped
