use Rattle.image_items_laws.specs.MadeInOrder as law
use Rattle.image_items_laws.proofs.next_made.Goals as goal

pub returns : goal.returns
returns c = law.next-made
