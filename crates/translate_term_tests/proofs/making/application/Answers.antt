use Rattle.translate_term_tests.proofs.PlainLaws.{app_held, plain_kept}
use Rattle.translate_term_tests.proofs.making.application.Goals as goal

pub returns-clause-plain : goal.returns-clause-plain
returns-clause-plain c = app_held _ _ _ _ _ c.requires.function c.requires.argument c.raw_application.ensures.known c.raw_application.ensures.made

pub returns-clause-keeps : goal.returns-clause-keeps
returns-clause-keeps c = plain_kept _ _ c.raw_application.ensures.keeps
