use Rattle.std.proofs.Common.{arith, ◌∙◌}
use Rattle.lp_term.specs.TableLaws.{Keeps-trans}
use Rattle.holide_sig.specs.Modules.{declarations_of}
use Rattle.share.proofs.ListingLaws.{at-index, lists-last, lists-next, AreIdsBelow-at}
use Rattle.share.proofs.listing.list_new.Goals as goal

pub list_shared-requires-clause-known : goal.list_shared-requires-clause-known
list_shared-requires-clause-known c = AreIdsBelow-at _ c.args.order.now c.loop-i.i _ c.requires.known
    (at-index c.args.order.now c.loop-i.i _ c.loop-i-test.true)

pub loop-i-preserved : goal.loop-i-preserved
loop-i-preserved c =
    let i = c.loop-i.invariant in
    let one = c.in_ok-list_shared.ensures in
    let first = c.args.source.now in
    let at = at-index c.args.order.now c.loop-i.i (record { 0 = 0 }) c.loop-i-test.true in
    record {
      decls = one.decls ∙ i.decls;
      keeps = Keeps-trans i.keeps one.keeps;
      listing = one.listing;
      more = λ all a.
          lists-next first c.loop-i.source c.list_shared.new.source c.args.listing.now.entries.items c.loop-i.listing.entries.items
          c.list_shared.new.listing.entries.items c.args.counts.now c.args.order.now c.loop-i.i c.args.from _ all i.decls i.keeps
          c.requires.listing.asking.held
          c.requires.listing.within at (AreIdsBelow-at _ c.args.order.now c.loop-i.i _ c.requires.known at) a (one.more all) (i.more all a);
    }

pub returns-clause-more : goal.returns-clause-more
returns-clause-more c = λ all a.
    lists-last (declarations_of c.args.source.now) c.args.source.now.table c.loop-i.source.table c.args.listing.now.entries.items c.loop-i.listing.entries.items
    c.args.order.now c.loop-i.i c.args.from all (omega (arith, c.loop-i-test.false)) (c.loop-i.invariant.more all a)
