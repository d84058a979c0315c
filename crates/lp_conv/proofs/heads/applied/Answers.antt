use Rattle.std.proofs.Common.{refl}
use Rattle.lp_conv.proofs.Spines.{applied-more}
use Rattle.lp_conv.proofs.heads.applied.Goals as goal

pub loop-x-preserved : goal.loop-x-preserved
loop-x-preserved c =
    applied-more _ c.loop-x.base _ c.args.f c.loop-x.made c.in_ok-made.made c.in-Some.x c.args.args c.loop-x.rest c.pop.new.self c.loop-x.invariant
    c.in-Some.ensures.popped
    (record { keeps = c.node.ensures.keeps; decls = refl }) c.in_ok-made.ensures.known c.in_ok-made.ensures.made
