use Rattle.hol_rules.proofs.Growth.{IsKept-Keeps, Grows-Keeps}
use Rattle.hol_rules.proofs.proof.Proof.with_constants.Goals as goal

pub invariant_of-self : goal.invariant_of-self
invariant_of-self c = IsKept-Keeps c.with_constants_of.ensures.keeps c.self.inside.symbols c.self.inside.steps.items c.self.inside.made.items c.self.invariant

pub returns-clause-grows : goal.returns-clause-grows
returns-clause-grows c = rw (← c.self.view_is)
    (Grows-Keeps c.with_constants_of.ensures.keeps c.self.inside.symbols c.self.inside.steps.items c.self.inside.made.items c.self.invariant)

pub with_constants_of-requires-clause-pairs : goal.with_constants_of-requires-clause-pairs
with_constants_of-requires-clause-pairs c = rw (← c.self.view_is) at c.requires.pairs

pub with_constants_of-requires-clause-term : goal.with_constants_of-requires-clause-term
with_constants_of-requires-clause-term c = rw (← c.self.view_is) at c.requires.term

pub returns-clause-made : goal.returns-clause-made
returns-clause-made c = rw (← c.self.view_is) c.with_constants_of.ensures.made
