use Rattle.image_items_laws.specs.MadeInOrder as law
use Rattle.image_items_laws.proofs.others_go.Goals as goal

pub returns : goal.returns
returns c = law.others-go
