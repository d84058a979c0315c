use Rattle.hol_laws.specs.TermSubstitutionLaws.{type_of-sub}
use Rattle.hol_laws.proofs.type_of_substitution.Goals as goal

pub returns : goal.returns
returns c = type_of-sub
