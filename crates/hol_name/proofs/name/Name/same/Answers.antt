use Rattle.hol_laws.specs.NameEqualityLaws.{name_eq-Decides}
use Rattle.hol_name.proofs.name.Name.same.Goals as goal

pub returns : goal.returns
returns c = rw c.eq.ensures (name_eq-Decides c.args.self.now c.args.other.now)
