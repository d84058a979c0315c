use Rattle.translate_laws.specs.NumeralLaws as law
use Rattle.translate_laws.proofs.numerals_differ.Goals as goal

pub returns : goal.returns
returns c = law.numeral-injective
