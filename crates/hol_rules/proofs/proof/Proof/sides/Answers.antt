use Rattle.hol_rules.proofs.SideLaws.{sides_are, no_sides}
use Rattle.hol_rules.proofs.proof.Proof.sides.Goals as goal

pub returns-in-Some-clause-sides : goal.returns-in-Some-clause-sides
returns-in-Some-clause-sides c =
    sides_are c.args.self.now c.args.id c.concl.result c.in-Some.left c.in-Some.right c.concl.ensures.is c.concl.ensures.typed
    (rw (← c.terms.ensures) c.in-Some.ensures.sides) c.in-Some.ensures.left c.in-Some.ensures.right

pub returns-in-None-clause-refused : goal.returns-in-None-clause-refused
returns-in-None-clause-refused c = no_sides c.args.self.now.trees c.concl.result _ c.concl.ensures.is (rw (← c.terms.ensures) c.in-None.ensures.none)
