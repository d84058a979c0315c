use Rattle.std.proofs.Common.{refl}
use Rattle.lp_conv.specs.GrowthLaws.{AreKnown-Keeps}
use Rattle.lp_conv.specs.GrowthLaws.{IsHeld-Grows}
use Rattle.lp_conv.proofs.Spines.{given-more, given-applied}
use Rattle.lp_conv.proofs.heads.unfold.Goals as goal

pub loop-inner-preserved : goal.loop-inner-preserved
loop-inner-preserved c =
    given-more _ _ c.args.id c.loop-inner.body c.in-Some.inner c.in-Some-pop.x c.args.args c.loop-inner.before.items _ c.loop-inner.rest c.pop.new.self
    c.loop-inner.invariant c.in-Some-pop.ensures.popped
    c.in_ok-push-in-Some-pop.ensures.items c.in-Some.ensures

pub applied-requires-clause-held : goal.applied-requires-clause-held
applied-requires-clause-held c = IsHeld-Grows c.args.base.now _ (record { keeps = c.put_all.ensures.keeps; decls = refl }) c.requires.held

pub applied-requires-clause-args : goal.applied-requires-clause-args
applied-requires-clause-args c = AreKnown-Keeps c.put_all.ensures.keeps _ c.loop-inner.invariant.listed

pub returns-clause-is : goal.returns-clause-is
returns-clause-is c =
    given-applied c.args.base.now (record { table = c.put_all.new.self; decls = c.args.base.now.decls }) c.applied.new.base c.args.id c.loop-inner.body
    c.in_ok-made.made c.in_ok-whole.whole c.args.args _ c.loop-inner.rest
    (record { keeps = c.put_all.ensures.keeps; decls = refl }) c.loop-inner.invariant c.in_default.ensures
    (rw c.deref.ensures.value at c.in_ok-made.ensures.made) c.in_ok-whole.ensures.is
