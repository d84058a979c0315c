use Rattle.std.proofs.lemmas.Result.{IfOk-weaker}
use Rattle.translate_term.proofs.TermTurns.{term_begins}
use Rattle.translate_term.proofs.terms.term_tree.Goals as goal

pub walked-tree-requires : goal.walked-tree-requires
walked-tree-requires c = (c.requires.0, rw c.new.ensures.empty (term_begins _ _ _ _ _ _ _ _ c.new-2.ensures.empty c.new-3.ensures.empty c.requires.1))

pub returns-clause-made : goal.returns-clause-made
returns-clause-made c =
    IfOk-weaker c.walked-tree.result _ _
    (λ r h given s. h given (rw c.new.ensures.empty (term_begins given _ _ _ _ _ _ _ c.new-2.ensures.empty c.new-3.ensures.empty s)))
    c.walked-tree.ensures.made
