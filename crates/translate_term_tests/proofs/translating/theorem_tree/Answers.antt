use Rattle.translate_term_tests.proofs.SequentLaws.{closed_told}
use Rattle.translate_term_tests.proofs.translating.theorem_tree.Goals as goal

pub closed_ty-requires-clause-told : goal.closed_ty-requires-clause-told
closed_ty-requires-clause-told c = closed_told _ _ c.requires.declared c.in_ok-closed.ensures
