use Rattle.image_items_laws.specs.NextTells as law
use Rattle.image_items_laws.proofs.next_tells.Goals as goal

pub returns : goal.returns
returns c = law.next-tells
