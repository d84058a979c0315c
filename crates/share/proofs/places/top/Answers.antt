use Rattle.std.proofs.Common.{arith}
use Rattle.holide_sig.specs.ModuleLaws.{AreDeclsKnown-slice_get}
use Rattle.share.proofs.CountLaws.{one_below, all_below}
use Rattle.share.proofs.places.top.Goals as goal

pub top_with-top-requires-clause-known : goal.top_with-top-requires-clause-known
top_with-top-requires-clause-known c = AreDeclsKnown-slice_get c.args.source.now.table c.args.source.now.decls c.loop-i.i c.get.result.now c.requires.decls
    c.get.ensures

pub loop-i-preserved : goal.loop-i-preserved
loop-i-preserved c = record {
  within = c.top_with-top.ensures.within;
  below = one_below c.loop-i.i c.loop-i.top c.top_with-top.result c.args.source.now.decls c.get.result.now c.get.ensures c.top_with-top.ensures.above
      c.top_with-top.ensures.more c.loop-i.invariant.below;
}

pub returns-clause-above : goal.returns-clause-above
returns-clause-above c = all_below c.loop-i.i c.loop-i.top c.args.source.now.decls (omega (arith, c.loop-i-test.false)) c.loop-i.invariant.below
