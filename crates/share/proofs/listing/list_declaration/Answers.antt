use Rattle.std.proofs.Common.{◌<◌, ◌∙◌, ap, arith, length, drop, subst, sym}
use Rattle.lp_term.specs.Tables.{trees_at}
use Rattle.holide_sig.specs.Modules.{declaration_in, declarations_of}
use Rattle.share.specs.declared.listing.Listed.TheVariants as listed
use Rattle.share.specs.Listings.{shared_in, AreListed, ListsMore}
use Rattle.share.proofs.MeetingLaws.{meeting-after, order-longer}
use Rattle.share.proofs.ListingLaws.{declaration-listed, declaration-met, AreListed-append}
use Rattle.share.proofs.listing.list_declaration.Goals as goal

pub list_new-requires-clause-from : goal.list_new-requires-clause-from
list_new-requires-clause-from c =
    let ts = c.args.source.now.table in
    let e = ap length c.deref.ensures.value in
    let l = order-longer ts c.args.meeting.now.order.items c.visit_declaration.new.meeting.order.items (declaration_in ts c.get.result.now)
    c.in_ok-visit_declaration.ensures.order in
    omega (arith, c.len-from.ensures, e, l)

pub returns-clause-listing : goal.returns-clause-listing
returns-clause-listing c =
    let l = c.in_ok-list_new.ensures.listing in
    let new = c.list_new.new.source in
    record {
      asking = l.asking;
      within = l.within;
      known = subst (AreListed (length new.decls) (length c.args.counts.now) (length new.table)) (sym c.in_ok-push.ensures.items)
          (AreListed-append (length new.decls) (length c.args.counts.now) (length new.table) c.list_new.new.listing.entries.items (listed.Kept c.args.number)
          l.known (subst (λ ds. c.args.number < length ds) (sym c.in_ok-list_new.ensures.decls) c.requires.number));
    }

pub returns-clause-meeting : goal.returns-clause-meeting
returns-clause-meeting c = meeting-after c.args.source.now.table c.list_new.new.source.table _ _ c.in_ok-list_new.ensures.keeps
    c.in_ok-visit_declaration.ensures.meeting

pub returns-clause-more : goal.returns-clause-more
returns-clause-more c = λ all met d a alike closed at.
    let first = c.args.source.now in
    let new = c.list_new.new.source in
    let m = declarations_of first in
    let start = c.args.listing.now.entries.items in
    let before = c.list_new.new.listing.entries.items in
    let order = c.visit_declaration.new.meeting.order.items in
    declaration-listed first new start before c.push.new.self.items all met c.args.meeting.now.order.items order c.args.number c.len-from.result d
    c.get.result.now c.get.ensures at alike closed (c.len-from.ensures ∙ c.args.meeting.now.order.ok.0) c.in_ok-visit_declaration.ensures.order
    (subst (λ xs. ListsMore first new start before (shared_in m all (trees_at first.table (drop c.len-from.result xs)))) c.deref.ensures.value
    (c.in_ok-list_new.ensures.more all a)) c.in_ok-push.ensures.items

pub returns-clause-met : goal.returns-clause-met
returns-clause-met c = λ met d alike closed at.
    let v = c.in_ok-visit_declaration.ensures in
    declaration-met c.args.source.now c.list_new.new.source.table met _ c.args.meeting.now.order.items c.visit_declaration.new.meeting.order.items c.args.number
    d c.get.result.now c.get.ensures at alike closed v.order c.in_ok-list_new.ensures.keeps v.meeting.within v.meeting.known
