use Rattle.translate_term_tests.proofs.PlainLaws.{function_held, plain_kept}
use Rattle.translate_term_tests.proofs.making.function.Goals as goal

pub returns-clause-plain : goal.returns-clause-plain
returns-clause-plain c = function_held c.args.table.now.types _ _ _ _ _ c.in_ok-name.ensures c.requires.domain c.requires.codomain c.ty_op.ensures.known
    c.ty_op.ensures.made

pub returns-clause-keeps : goal.returns-clause-keeps
returns-clause-keeps c = plain_kept _ _ c.ty_op.ensures.keeps
