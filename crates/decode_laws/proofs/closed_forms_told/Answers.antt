use Rattle.decode_laws.specs.ClosedFormTestLaws as law
use Rattle.decode_laws.proofs.closed_forms_told.Goals as goal

pub returns : goal.returns
returns c = law.is_closed_form-Decides
