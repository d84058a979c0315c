use Rattle.translate_term.specs.GrowLaws.{Grows-table, IsHeld-Grows, declarations_of-Grows}
use Rattle.translate_term.proofs.filler.Goals as goal

pub returns-clause-held : goal.returns-clause-held
returns-clause-held c = IsHeld-Grows _ _ (Grows-table c.args.target.now _ c.filling.ensures.keeps) c.requires.held

pub returns-clause-declared : goal.returns-clause-declared
returns-clause-declared c = declarations_of-Grows _ _ (Grows-table c.args.target.now _ c.filling.ensures.keeps) c.requires.held
