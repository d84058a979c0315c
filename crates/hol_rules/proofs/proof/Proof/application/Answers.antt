use Rattle.hol_rules.proofs.Growth.{IsKept-Keeps, Grows-Keeps}
use Rattle.std.proofs.Common.{refl}
use Rattle.hol_rules.proofs.ConstantImage.{IfOk-held}
use Rattle.hol_rules.proofs.proof.Proof.application.Goals as goal

pub invariant_of-self : goal.invariant_of-self
invariant_of-self c = IsKept-Keeps c.raw_application.ensures.keeps c.self.inside.symbols c.self.inside.steps.items c.self.inside.made.items c.self.invariant

pub returns-clause-grows : goal.returns-clause-grows
returns-clause-grows c = rw (← c.self.view_is)
    (Grows-Keeps c.raw_application.ensures.keeps c.self.inside.symbols c.self.inside.steps.items c.self.inside.made.items c.self.invariant)

pub raw_application-requires-clause-function : goal.raw_application-requires-clause-function
raw_application-requires-clause-function c = rw (← c.self.view_is) at c.requires.function

pub raw_application-requires-clause-argument : goal.raw_application-requires-clause-argument
raw_application-requires-clause-argument c = rw (← c.self.view_is) at c.requires.argument

pub returns-clause-made : goal.returns-clause-made
returns-clause-made c = rw (← c.self.view_is)
    (IfOk-held c.raw_application.new.self _ _ refl c.raw_application.result c.raw_application.ensures.known c.raw_application.ensures.made)
