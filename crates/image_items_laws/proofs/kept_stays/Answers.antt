use Rattle.image_items_laws.specs.MadeInOrder as law
use Rattle.image_items_laws.proofs.kept_stays.Goals as goal

pub returns : goal.returns
returns c = law.kept-stays
