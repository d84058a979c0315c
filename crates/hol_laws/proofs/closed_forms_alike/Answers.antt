use Rattle.hol_laws.specs.ClosedFormLaws.{closed_forms_alike}
use Rattle.hol_laws.proofs.closed_forms_alike.Goals as goal

pub returns : goal.returns
returns c = closed_forms_alike
