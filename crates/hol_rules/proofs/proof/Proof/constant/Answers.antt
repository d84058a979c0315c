use Rattle.hol_rules.proofs.Growth.{IsKept-Keeps, Grows-Keeps}
use Rattle.std.proofs.Common.{refl}
use Rattle.hol_rules.proofs.ConstantImage.{IfOk-held}
use Rattle.hol_rules.proofs.proof.Proof.constant.Goals as goal

pub invariant_of-self : goal.invariant_of-self
invariant_of-self c = IsKept-Keeps c.constant.ensures.keeps c.self.inside.symbols c.self.inside.steps.items c.self.inside.made.items c.self.invariant

pub returns-clause-grows : goal.returns-clause-grows
returns-clause-grows c = rw (← c.self.view_is)
    (Grows-Keeps c.constant.ensures.keeps c.self.inside.symbols c.self.inside.steps.items c.self.inside.made.items c.self.invariant)

pub constant-requires : goal.constant-requires
constant-requires c = rw (← c.self.view_is) at c.requires

pub returns-clause-made : goal.returns-clause-made
returns-clause-made c = rw (← c.self.view_is) (IfOk-held c.constant.new.self _ _ refl c.constant.result c.constant.ensures.known c.constant.ensures.made)

pub returns-clause-within : goal.returns-clause-within
returns-clause-within c = rw (← c.self.view_is) c.constant.ensures.within

pub returns-clause-refusal : goal.returns-clause-refusal
returns-clause-refusal c = rw (← c.self.view_is) c.constant.ensures.refusal
