use Rattle.decode_laws.specs.ExportLaws as law
use Rattle.decode_laws.proofs.exports_decoded.Goals as goal

pub returns : goal.returns
returns c = law.exports_decoded
