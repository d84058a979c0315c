use Rattle.hol_rules.proofs.Growth.{IsKept-Keeps, Grows-Keeps}
use Rattle.std.proofs.Common.{refl}
use Rattle.hol_rules.proofs.ConstantImage.{IfOk-held}
use Rattle.hol_rules.proofs.proof.Proof.app.Goals as goal

pub invariant_of-self : goal.invariant_of-self
invariant_of-self c = IsKept-Keeps c.app.ensures.keeps c.self.inside.symbols c.self.inside.steps.items c.self.inside.made.items c.self.invariant

pub returns-clause-grows : goal.returns-clause-grows
returns-clause-grows c = rw (← c.self.view_is)
    (Grows-Keeps c.app.ensures.keeps c.self.inside.symbols c.self.inside.steps.items c.self.inside.made.items c.self.invariant)

pub app-requires-clause-function : goal.app-requires-clause-function
app-requires-clause-function c = rw (← c.self.view_is) at c.requires.function

pub app-requires-clause-argument : goal.app-requires-clause-argument
app-requires-clause-argument c = rw (← c.self.view_is) at c.requires.argument

pub returns-clause-made : goal.returns-clause-made
returns-clause-made c = rw (← c.self.view_is) (IfOk-held c.app.new.self _ _ refl c.app.result c.app.ensures.known c.app.ensures.made)

pub returns-clause-typed : goal.returns-clause-typed
returns-clause-typed c = rw (← c.self.view_is) c.app.ensures.typed

pub returns-clause-within : goal.returns-clause-within
returns-clause-within c = rw (← c.self.view_is) c.app.ensures.within

pub returns-clause-refusal : goal.returns-clause-refusal
returns-clause-refusal c = rw (← c.self.view_is) c.app.ensures.refusal
