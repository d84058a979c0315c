use Rattle.image_items_laws.specs.NextSteps as law
use Rattle.image_items_laws.proofs.next_premises.Goals as goal

pub returns : goal.returns
returns c = law.next-premises
