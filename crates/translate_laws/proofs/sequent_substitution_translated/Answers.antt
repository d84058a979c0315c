use Rattle.translate_laws.specs.TranslationShown as law
use Rattle.translate_laws.proofs.sequent_substitution_translated.Goals as goal

pub returns : goal.returns
returns c = law.sequent_substitution_translated
