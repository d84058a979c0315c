use Rattle.image_items_laws.specs.NextDefinitions as law
use Rattle.image_items_laws.proofs.next_definition_kept.Goals as goal

pub returns : goal.returns
returns c = law.next-definition-kept
