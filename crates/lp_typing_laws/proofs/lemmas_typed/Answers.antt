use Rattle.lp_typing_laws.specs.LemmasLaws as law
use Rattle.lp_typing_laws.proofs.lemmas_typed.Goals as goal

pub returns : goal.returns
returns c = law.lemmas_typed
