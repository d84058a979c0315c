use Rattle.hol_rules.proofs.Growth.{IsKept-Keeps, Grows-Keeps}
use Rattle.hol_rules.proofs.proof.Proof.laws.Goals as goal

pub invariant_of-self : goal.invariant_of-self
invariant_of-self c = IsKept-Keeps c.laws_of.ensures.keeps c.self.inside.symbols c.self.inside.steps.items c.self.inside.made.items c.self.invariant

pub returns-clause-grows : goal.returns-clause-grows
returns-clause-grows c = rw (← c.self.view_is)
    (Grows-Keeps c.laws_of.ensures.keeps c.self.inside.symbols c.self.inside.steps.items c.self.inside.made.items c.self.invariant)

pub laws_of-requires-clause-whole : goal.laws_of-requires-clause-whole
laws_of-requires-clause-whole c = rw (← c.self.view_is) at c.requires.whole

pub laws_of-requires-clause-predicate : goal.laws_of-requires-clause-predicate
laws_of-requires-clause-predicate c = rw (← c.self.view_is) at c.requires.predicate

pub laws_of-requires-clause-closed : goal.laws_of-requires-clause-closed
laws_of-requires-clause-closed c = rw (← c.self.view_is) at c.requires.closed

pub returns-clause-made : goal.returns-clause-made
returns-clause-made c = rw (← c.self.view_is) c.laws_of.ensures.made
