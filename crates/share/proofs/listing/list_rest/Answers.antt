use Rattle.std.proofs.Common.{arith, ◌∙◌}
use Rattle.lp_term.specs.TableLaws.{Keeps-trans}
use Rattle.share.proofs.ListingLaws.{listed-last, listed-next}
use Rattle.share.proofs.listing.list_rest.Goals as goal

pub loop-i-preserved : goal.loop-i-preserved
loop-i-preserved c =
    let i = c.loop-i.invariant in
    let one = c.in_ok-list_declaration.ensures in
    let first = c.args.source.now in
    record {
      decls = one.decls ∙ i.decls;
      keeps = Keeps-trans i.keeps one.keeps;
      listing = one.listing;
      meeting = one.meeting;
      length = one.length;
      ended = one.ended;
      listed = listed-next first c.loop-i.source c.list_declaration.new.source c.args.listing.now.entries.items c.loop-i.listing.entries.items
          c.list_declaration.new.listing.entries.items c.args.counts.now c.loop-i.meeting.order.items c.list_declaration.new.meeting.order.items c.args.first
          c.loop-i.i i.decls i.keeps c.requires.listing.asking.held
          c.requires.listing.within (omega (arith, c.loop-i-test.true, c.len-i-end.ensures.count)) one.more one.met i.listed;
    }

pub returns-clause-listed : goal.returns-clause-listed
returns-clause-listed c =
    listed-last c.args.source.now c.loop-i.source c.args.listing.now.entries.items c.loop-i.listing.entries.items c.args.counts.now c.loop-i.meeting.order.items
    c.args.first c.loop-i.i (omega (arith, c.loop-i-test.false, c.len-i-end.ensures.count)) c.loop-i.invariant.listed
