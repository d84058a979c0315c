use Rattle.translate_term_tests.proofs.PlainLaws.{bool_held, plain_kept}
use Rattle.translate_term_tests.proofs.making.truth.Goals as goal

pub returns-clause-plain : goal.returns-clause-plain
returns-clause-plain c = bool_held _ _ _ c.in_ok-name.ensures c.ty_op.ensures.known c.ty_op.ensures.made

pub returns-clause-keeps : goal.returns-clause-keeps
returns-clause-keeps c = plain_kept _ _ c.ty_op.ensures.keeps
