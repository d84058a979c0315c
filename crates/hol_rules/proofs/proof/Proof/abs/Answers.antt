use Rattle.hol_rules.proofs.Growth.{IsKept-Keeps, Grows-Keeps}
use Rattle.std.proofs.Common.{refl}
use Rattle.hol_rules.proofs.ConstantImage.{IfOk-held}
use Rattle.hol_rules.proofs.proof.Proof.abs.Goals as goal

pub invariant_of-self : goal.invariant_of-self
invariant_of-self c = IsKept-Keeps c.abs.ensures.keeps c.self.inside.symbols c.self.inside.steps.items c.self.inside.made.items c.self.invariant

pub returns-clause-grows : goal.returns-clause-grows
returns-clause-grows c = rw (← c.self.view_is)
    (Grows-Keeps c.abs.ensures.keeps c.self.inside.symbols c.self.inside.steps.items c.self.inside.made.items c.self.invariant)

pub abs-requires-clause-variable : goal.abs-requires-clause-variable
abs-requires-clause-variable c = rw (← c.self.view_is) at c.requires.variable

pub abs-requires-clause-body : goal.abs-requires-clause-body
abs-requires-clause-body c = rw (← c.self.view_is) at c.requires.body

pub returns-clause-made : goal.returns-clause-made
returns-clause-made c = rw (← c.self.view_is) (IfOk-held c.abs.new.self _ _ refl c.abs.result c.abs.ensures.known c.abs.ensures.made)

pub returns-clause-within : goal.returns-clause-within
returns-clause-within c = rw (← c.self.view_is) c.abs.ensures.within

pub returns-clause-refusal : goal.returns-clause-refusal
returns-clause-refusal c = rw (← c.self.view_is) c.abs.ensures.refusal
