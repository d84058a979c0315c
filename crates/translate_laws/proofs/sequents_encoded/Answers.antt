use Rattle.translate_laws.specs.TranslationShown as law
use Rattle.translate_laws.proofs.sequents_encoded.Goals as goal

pub returns : goal.returns
returns c = law.sequents_encoded
