use Rattle.translate_laws.specs.ShapeStatements as law
use Rattle.translate_laws.proofs.terms_shaped.Goals as goal

pub returns : goal.returns
returns c = law.terms_shaped
