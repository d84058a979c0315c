use Rattle.hol_rules.proofs.Growth.{IsKept-Keeps, Grows-Keeps}
use Rattle.hol_rules.proofs.ConstantImage.{IfOk-type}
use Rattle.hol_rules.proofs.proof.Proof.ty_op.Goals as goal

pub invariant_of-self : goal.invariant_of-self
invariant_of-self c = IsKept-Keeps c.ty_op.ensures.keeps c.self.inside.symbols c.self.inside.steps.items c.self.inside.made.items c.self.invariant

pub returns-clause-grows : goal.returns-clause-grows
returns-clause-grows c = rw (← c.self.view_is)
    (Grows-Keeps c.ty_op.ensures.keeps c.self.inside.symbols c.self.inside.steps.items c.self.inside.made.items c.self.invariant)

pub ty_op-requires : goal.ty_op-requires
ty_op-requires c = rw (← c.self.view_is) at c.requires

pub returns-clause-known : goal.returns-clause-known
returns-clause-known c = c.ty_op.ensures.known

pub returns-clause-made : goal.returns-clause-made
returns-clause-made c = rw (← c.self.view_is) (IfOk-type c.ty_op.new.self.types _ c.ty_op.result c.ty_op.ensures.made)

pub returns-clause-within : goal.returns-clause-within
returns-clause-within c = rw (← c.self.view_is) c.ty_op.ensures.within
