use Rattle.translate_laws.specs.ExportNames as law
use Rattle.translate_laws.proofs.export_names_told.Goals as goal

pub returns : goal.returns
returns c = law.is_export_name-Decides
