use Rattle.std.proofs.Common.{arith, length}
use Rattle.share.proofs.ListingLaws.{at-index, AreListed-all, AreListed-at, AreListed-next}
use Rattle.share.proofs.placing.above_types.Goals as goal

pub above_type-above-requires-clause-listed : goal.above_type-above-requires-clause-listed
above_type-above-requires-clause-listed c = let r =
    c.requires.listed in (
      r.0,
      r.1,
      AreListed-at r.0 r.1 (length c.args.table.now) c.args.entries.now c.loop-i.i _ r.2 (at-index c.args.entries.now c.loop-i.i _ c.loop-i-test.true),
    )

pub loop-i-preserved : goal.loop-i-preserved
loop-i-preserved c =
    let i = c.loop-i.invariant in
    let a = c.above_type-above.ensures in
    record {
      more = (let x = i.more in let y = a.more in omega (arith, x, y));
      within = a.within;
      listed = λ count bodies types h.
          let at = at-index c.args.entries.now c.loop-i.i _ c.loop-i-test.true in
          AreListed-next count bodies c.loop-i.above c.above_type-above.result c.loop-i.i c.args.entries.now _ at a.more (i.listed count bodies types h)
          (a.listed count bodies types (AreListed-at count bodies types c.args.entries.now c.loop-i.i _ h at));
    }

pub returns-clause-listed : goal.returns-clause-listed
returns-clause-listed c = λ count bodies types h. AreListed-all count bodies c.loop-i.above c.loop-i.i c.args.entries.now (omega (arith, c.loop-i-test.false))
    (c.loop-i.invariant.listed count bodies types h)
