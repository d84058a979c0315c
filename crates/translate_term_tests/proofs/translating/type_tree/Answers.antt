use Rattle.translate_term_tests.proofs.PlainLaws.{type_told}
use Rattle.translate_term_tests.proofs.translating.type_tree.Goals as goal

pub ty-made-requires-clause-id : goal.ty-made-requires-clause-id
ty-made-requires-clause-id c = c.requires.id.known

pub ty-made-requires-clause-told : goal.ty-made-requires-clause-told
ty-made-requires-clause-told c = type_told _ _ _ c.requires.id
