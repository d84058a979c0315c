use Rattle.translate_laws.specs.TranslationShown as law
use Rattle.translate_laws.proofs.term_substitution_translated.Goals as goal

pub returns : goal.returns
returns c = law.term_substitution_translated
