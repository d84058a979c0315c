use Rattle.std.proofs.Common.{refl, subst}
use Rattle.lp_term.specs.Tables.{AreKnown}
use Rattle.lp_conv.specs.GrowthLaws.{AreKnown-Keeps}
use Rattle.lp_conv.specs.GrowthLaws.{IsHeld-Grows}
use Rattle.lp_conv.proofs.Spines.{beta-applied}
use Rattle.lp_conv.proofs.heads.beta.Goals as goal

pub applied-requires-clause-held : goal.applied-requires-clause-held
applied-requires-clause-held c = IsHeld-Grows c.args.base.now _ (record { keeps = c.put.ensures.keeps; decls = refl }) c.requires.held

pub applied-requires-clause-args : goal.applied-requires-clause-args
applied-requires-clause-args c = AreKnown-Keeps c.put.ensures.keeps _ ((subst (AreKnown c.args.base.now.table) c.in-Some.ensures.popped c.requires.args).1)

pub returns-in_ok-whole-in-Some-clause-is : goal.returns-in_ok-whole-in-Some-clause-is
returns-in_ok-whole-in-Some-clause-is c =
    beta-applied c.args.base.now (record { table = c.put.new.self; decls = c.args.base.now.decls }) c.applied.new.base c.args.body c.in-Some.x
    c.in_ok-made-in-Some.made c.in_ok-whole-in-Some.whole c.args.args c.pop.new.self
    (record { keeps = c.put.ensures.keeps; decls = refl }) c.in-Some.ensures.popped
    ((subst (AreKnown c.args.base.now.table) c.in-Some.ensures.popped c.requires.args).1) c.in_ok-made-in-Some.ensures.made c.in_ok-whole-in-Some.ensures.is
