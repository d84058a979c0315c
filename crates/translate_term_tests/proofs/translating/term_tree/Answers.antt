use Rattle.translate_term_tests.proofs.PlainLaws.{term_told}
use Rattle.translate_term_tests.proofs.translating.term_tree.Goals as goal

pub tm-made-requires-clause-id : goal.tm-made-requires-clause-id
tm-made-requires-clause-id c = c.requires.id.known

pub tm-made-requires-clause-terms : goal.tm-made-requires-clause-terms
tm-made-requires-clause-terms c = c.in_ok-scope.ensures.terms _ _ c.requires.ty.known c.in_ok-g.ensures.known

pub tm-made-requires-clause-told : goal.tm-made-requires-clause-told
tm-made-requires-clause-told c = term_told _ _ _ c.requires.id
