use Rattle.hol_rules.proofs.Growth.{IsKept-Keeps, Grows-Keeps}
use Rattle.std.proofs.Common.{refl}
use Rattle.hol_rules.proofs.ConstantImage.{IfOk-held}
use Rattle.hol_rules.proofs.proof.Proof.abstraction.Goals as goal

pub invariant_of-self : goal.invariant_of-self
invariant_of-self c = IsKept-Keeps c.raw_abstraction.ensures.keeps c.self.inside.symbols c.self.inside.steps.items c.self.inside.made.items c.self.invariant

pub returns-clause-grows : goal.returns-clause-grows
returns-clause-grows c = rw (← c.self.view_is)
    (Grows-Keeps c.raw_abstraction.ensures.keeps c.self.inside.symbols c.self.inside.steps.items c.self.inside.made.items c.self.invariant)

pub raw_abstraction-requires-clause-variable : goal.raw_abstraction-requires-clause-variable
raw_abstraction-requires-clause-variable c = rw (← c.self.view_is) at c.requires.variable

pub raw_abstraction-requires-clause-body : goal.raw_abstraction-requires-clause-body
raw_abstraction-requires-clause-body c = rw (← c.self.view_is) at c.requires.body

pub returns-clause-made : goal.returns-clause-made
returns-clause-made c = rw (← c.self.view_is)
    (IfOk-held c.raw_abstraction.new.self _ _ refl c.raw_abstraction.result c.raw_abstraction.ensures.known c.raw_abstraction.ensures.made)
