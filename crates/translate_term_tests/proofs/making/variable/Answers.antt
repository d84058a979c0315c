use Rattle.translate_term_tests.proofs.PlainLaws.{variable_held, plain_kept}
use Rattle.translate_term_tests.proofs.making.variable.Goals as goal

pub returns-clause-plain : goal.returns-clause-plain
returns-clause-plain c = variable_held _ _ _ c.ty_var.ensures.known c.ty_var.ensures.made

pub returns-clause-keeps : goal.returns-clause-keeps
returns-clause-keeps c = plain_kept _ _ c.ty_var.ensures.keeps
