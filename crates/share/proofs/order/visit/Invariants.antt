use Rattle.std.proofs.Common.{◌≡◌, length}
use Rattle.lp_term.specs.Tables.{tree_at, trees_at}
use Rattle.share_laws.specs.FirstsByNodes.{visit}
use Rattle.share.specs.Meetings.{unwound, work, AreTurnsBelow, IsMeeting}
use Rattle.share.proofs.order.visit.Given as goal

abbrev pub invariant-loop-turn : goal.invariant-loop-turn
invariant-loop-turn l = record {
  order : unwound l.table l.meeting.turns (trees_at l.table l.meeting.order.items)
      ≡ visit (trees_at l.table l.fn.meeting.order.items) (tree_at l.table l.fn.id.0);
  meeting : IsMeeting l.table l.meeting.met.items l.meeting.order.items;
  below : AreTurnsBelow (length l.meeting.met.items) l.meeting.turns;
  length : length l.meeting.met.items ≡ length l.fn.meeting.met.items;
}

abbrev pub decreases-loop-turn : goal.decreases-loop-turn
decreases-loop-turn l = work l.table l.meeting.turns
