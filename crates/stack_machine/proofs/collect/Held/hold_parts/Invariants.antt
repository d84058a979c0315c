use Rattle.std.proofs.Common.{◌≤◌, length}
use Rattle.stack_machine.specs.Collecting.{HoldsMore, IsClosedFrom, IsLeast}
use Rattle.stack_machine.proofs.collect.Held.hold_parts.Given as goal

abbrev pub invariant-loop-i : goal.invariant-loop-i
invariant-loop-i l = record {
  within : l.i ≤ length l.cells;
  more : HoldsMore l.fn.self l.self;
  closed : IsClosedFrom l.i l.self l.cells;
  least : IsLeast l.fn.self l.self l.cells;
}
