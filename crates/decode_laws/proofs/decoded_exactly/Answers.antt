use Rattle.decode_laws.specs.DecodingLaws as law
use Rattle.decode_laws.proofs.decoded_exactly.Goals as goal

pub returns : goal.returns
returns c = law.decoded_exactly
