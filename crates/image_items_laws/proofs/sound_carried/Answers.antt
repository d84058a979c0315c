use Rattle.image_items_laws.specs.MadeInOrder as law
use Rattle.image_items_laws.proofs.sound_carried.Goals as goal

pub returns : goal.returns
returns c = law.sound-carried
