use Rattle.std.proofs.Common.{arith, refl, subst, sym, ◌∙◌}
use Rattle.share.specs.Counts.{AreBelow}
use Rattle.share.proofs.CountLaws.{none_counted, one_counted, all_counted, places_counted}
use Rattle.share.proofs.places.count_places.Goals as goal

pub loop-i-init : goal.loop-i-init
loop-i-init c = record { length = refl; counted = none_counted c.args.source.now.table c.args.source.now.decls c.args.first c.args.counts.now c.requires.none }

pub loop-i-preserved : goal.loop-i-preserved
loop-i-preserved c = record {
  length = c.count_roots.ensures.length ∙ c.loop-i.invariant.length;
  counted = one_counted c.args.source.now.table c.args.source.now.decls c.args.first c.loop-i.i c.loop-i.counts c.count_roots.new.counts c.get.result.now
      c.get.ensures c.count_roots.ensures.length
      (c.count_roots.ensures.more c.args.source.now.table c.requires.held.distinct (omega (arith, c.loop-i.invariant.length, c.requires.within)))
      c.loop-i.invariant.counted;
}

pub returns-clause-counted : goal.returns-clause-counted
returns-clause-counted c =
    let ts = c.args.source.now.table in
    let ds = c.args.source.now.decls in
    let counts = c.loop-i.counts in
    let same = c.loop-i.invariant.length in
    let roots = all_counted ts ds c.args.first c.loop-i.i counts (omega (arith, c.loop-i-test.false, c.len-i-end.ensures.count)) c.loop-i.invariant.counted in
    places_counted ts ds c.args.first counts c.requires.held.distinct (omega (arith, same, c.requires.within))
    (subst (λ n. AreBelow n ds) (sym same) c.requires.above) c.hand_down.ensures.lower c.hand_down.new.counts
    (c.hand_down.ensures.handed c.requires.held.distinct _ roots)
