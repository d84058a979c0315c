use Rattle.hol_rules.proofs.Growth.{IsKept-Keeps, Grows-Keeps}
use Rattle.hol_rules.proofs.proof.Proof.constant_at.Goals as goal

pub invariant_of-self : goal.invariant_of-self
invariant_of-self c = IsKept-Keeps c.constant_of.ensures.keeps c.self.inside.symbols c.self.inside.steps.items c.self.inside.made.items c.self.invariant

pub returns-clause-grows : goal.returns-clause-grows
returns-clause-grows c = rw (← c.self.view_is)
    (Grows-Keeps c.constant_of.ensures.keeps c.self.inside.symbols c.self.inside.steps.items c.self.inside.made.items c.self.invariant)

pub constant_of-requires : goal.constant_of-requires
constant_of-requires c = rw (← c.self.view_is) at c.requires

pub returns-clause-made : goal.returns-clause-made
returns-clause-made c = rw (← c.self.view_is) c.constant_of.ensures.made
