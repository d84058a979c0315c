use Rattle.hol_rules.proofs.laws.first_law.Goals as goal

pub first_law_free-made-requires-clause-part : goal.first_law_free-made-requires-clause-part
first_law_free-made-requires-clause-part c = c.requires

pub first_law_free-made-requires-clause-variable : goal.first_law_free-made-requires-clause-variable
first_law_free-made-requires-clause-variable c = c.requires.ty

pub first_law_closed-made-requires-clause-part : goal.first_law_closed-made-requires-clause-part
first_law_closed-made-requires-clause-part c = c.requires

pub first_law_closed-made-requires-clause-variable : goal.first_law_closed-made-requires-clause-variable
first_law_closed-made-requires-clause-variable c = c.requires.ty
