use Rattle.translate_term_tests.proofs.PlainLaws.{held_keeps, declared_keeps}
use Rattle.translate_term_tests.proofs.translating.node.Goals as goal

pub returns-clause-held : goal.returns-clause-held
returns-clause-held c = held_keeps c.args.base.now _ c.node.ensures.keeps c.requires.held

pub returns-clause-declared : goal.returns-clause-declared
returns-clause-declared c = declared_keeps c.args.base.now _ c.node.ensures.keeps c.requires.held
