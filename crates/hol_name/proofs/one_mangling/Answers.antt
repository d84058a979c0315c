use Rattle.hol_laws.specs.ManglingLaws.{mangled-injective}
use Rattle.hol_name.proofs.one_mangling.Goals as goal

pub returns : goal.returns
returns c = mangled-injective
