use Rattle.hol_laws.specs.TermTyping.{type_of-put}
use Rattle.hol_laws.proofs.type_of_instance.Goals as goal

pub returns : goal.returns
returns c = type_of-put
