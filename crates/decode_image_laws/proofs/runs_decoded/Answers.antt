use Rattle.decode_image_laws.specs.RunExports as law
use Rattle.decode_image_laws.proofs.runs_decoded.Goals as goal

pub returns : goal.returns
returns c = law.runs_decoded
