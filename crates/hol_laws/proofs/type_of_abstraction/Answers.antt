use Rattle.hol_laws.specs.TermTyping.{type_of-close}
use Rattle.hol_laws.proofs.type_of_abstraction.Goals as goal

pub returns : goal.returns
returns c = type_of-close
