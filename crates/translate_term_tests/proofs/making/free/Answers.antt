use Rattle.translate_term_tests.proofs.PlainLaws.{free_held, plain_kept}
use Rattle.translate_term_tests.proofs.making.free.Goals as goal

pub returns-clause-plain : goal.returns-clause-plain
returns-clause-plain c = free_held c.args.table.now _ _ _ _ c.requires c.free.ensures.known c.free.ensures.made

pub returns-clause-keeps : goal.returns-clause-keeps
returns-clause-keeps c = plain_kept _ _ c.free.ensures.keeps
