use Rattle.image_reach_laws.specs.TypedBodies as law
use Rattle.image_reach_laws.proofs.bodies_typed.Goals as goal

pub returns : goal.returns
returns c = law.bodies_typed
