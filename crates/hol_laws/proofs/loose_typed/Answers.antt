use Rattle.hol_laws.specs.TermTyping.{loose-typed}
use Rattle.hol_laws.proofs.loose_typed.Goals as goal

pub returns : goal.returns
returns c = loose-typed
