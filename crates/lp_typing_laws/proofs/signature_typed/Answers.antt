use Rattle.lp_typing_laws.specs.SignatureLaws as law
use Rattle.lp_typing_laws.proofs.signature_typed.Goals as goal

pub returns : goal.returns
returns c = law.signature_typed
