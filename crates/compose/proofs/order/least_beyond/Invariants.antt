use Rattle.std.proofs.Common.{take}
use Rattle.compose.specs.Orders.{IsLeastBeyond}
use Rattle.compose.proofs.order.least_beyond.Given as goal

-- the least of those that were looked at
abbrev pub invariant-loop-id : goal.invariant-loop-id
invariant-loop-id l = record {
  least : IsLeastBeyond (take l.id-index l.id-items) l.others l.least;
}
