use Rattle.image_items_laws.specs.MadeInOrder as law
use Rattle.image_items_laws.proofs.items_grow.Goals as goal

pub returns : goal.returns
returns c = law.items-grow
