use Rattle.std.proofs.Common.{◌≡◌, length, []}
use Rattle.lp_term.specs.Tables.{Keeps}
use Rattle.share.specs.Listings.{IsListing}
use Rattle.share.specs.Meetings.{IsMeeting}
use Rattle.share.proofs.ListingLaws.{ListedTo}
use Rattle.share.proofs.listing.list_rest.Given as goal

abbrev pub invariant-loop-i : goal.invariant-loop-i
invariant-loop-i l = record {
  decls : l.source.decls ≡ l.fn.source.decls;
  keeps : Keeps l.fn.source.table l.source.table;
  listing : IsListing l.source (length l.counts) l.listing;
  meeting : IsMeeting l.source.table l.meeting.met.items l.meeting.order.items;
  length : length l.meeting.met.items ≡ length l.counts;
  ended : l.meeting.turns ≡ [];
  listed : ListedTo l.fn.source l.source l.fn.listing.entries.items l.listing.entries.items l.counts l.meeting.order.items l.first l.i;
}
