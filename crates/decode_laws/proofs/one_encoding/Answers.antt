use Rattle.decode_laws.specs.DecodingLaws as law
use Rattle.decode_laws.proofs.one_encoding.Goals as goal

pub returns : goal.returns
returns c = law.one_encoding
