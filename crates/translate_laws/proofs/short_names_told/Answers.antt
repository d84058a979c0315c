use Rattle.translate_laws.specs.ExportNames as law
use Rattle.translate_laws.proofs.short_names_told.Goals as goal

pub returns : goal.returns
returns c = law.is_short_name-Decides
