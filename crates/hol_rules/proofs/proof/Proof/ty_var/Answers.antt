use Rattle.hol_rules.proofs.Growth.{IsKept-Keeps, Grows-Keeps}
use Rattle.hol_rules.proofs.ConstantImage.{IfOk-type}
use Rattle.hol_rules.proofs.proof.Proof.ty_var.Goals as goal

pub invariant_of-self : goal.invariant_of-self
invariant_of-self c = IsKept-Keeps c.ty_var.ensures.keeps c.self.inside.symbols c.self.inside.steps.items c.self.inside.made.items c.self.invariant

pub returns-clause-grows : goal.returns-clause-grows
returns-clause-grows c = rw (← c.self.view_is)
    (Grows-Keeps c.ty_var.ensures.keeps c.self.inside.symbols c.self.inside.steps.items c.self.inside.made.items c.self.invariant)

pub returns-clause-known : goal.returns-clause-known
returns-clause-known c = c.ty_var.ensures.known

pub returns-clause-made : goal.returns-clause-made
returns-clause-made c = IfOk-type c.ty_var.new.self.types _ c.ty_var.result c.ty_var.ensures.made

pub returns-clause-refusal : goal.returns-clause-refusal
returns-clause-refusal c = c.ty_var.ensures.refusal
