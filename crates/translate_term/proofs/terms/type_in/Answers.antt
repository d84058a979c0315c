use Rattle.translate_term.proofs.terms.type_in.Goals as goal

pub type_of-requires : goal.type_of-requires
type_of-requires c = rw c.types.ensures.types c.requires

pub returns-clause-made : goal.returns-clause-made
returns-clause-made c = rw c.types.ensures.types at c.type_of.ensures.made

pub returns-clause-noted : goal.returns-clause-noted
returns-clause-noted c = rw c.types.ensures.types at c.type_of.ensures.noted
