use Rattle.hol_laws.specs.NameLaws.{name_of-IsNameLine}
use Rattle.hol_name.proofs.one_name.Goals as goal

pub returns : goal.returns
returns c = name_of-IsNameLine
