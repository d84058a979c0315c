use Rattle.hol_rules.proofs.laws.second_law.Goals as goal

pub second_law_free-made-requires-clause-part : goal.second_law_free-made-requires-clause-part
second_law_free-made-requires-clause-part c = c.requires.part

pub second_law_free-made-requires-clause-variable : goal.second_law_free-made-requires-clause-variable
second_law_free-made-requires-clause-variable c = c.requires.whole

pub second_law_closed-made-requires-clause-part : goal.second_law_closed-made-requires-clause-part
second_law_closed-made-requires-clause-part c = c.requires.part

pub second_law_closed-made-requires-clause-variable : goal.second_law_closed-made-requires-clause-variable
second_law_closed-made-requires-clause-variable c = c.requires.whole
