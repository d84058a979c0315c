use Rattle.image_items_laws.specs.NextItems as law
use Rattle.image_items_laws.proofs.next_symbol_gone.Goals as goal

pub returns : goal.returns
returns c = law.next-symbol-gone
