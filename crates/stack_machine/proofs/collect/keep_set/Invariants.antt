use Rattle.std.proofs.Common.{◌≡◌, ◌≤◌, ◌++◌, take, drop, length}
use Rattle.std.specs.List.{items_where_true}
use Rattle.stack_machine.proofs.collect.keep_set.Given as goal

abbrev pub invariant-loop-i : goal.invariant-loop-i
invariant-loop-i g l = record {
  before : l.count ≤ l.i;
  long : length l.items.items ≡ length l.flags;
  kept : take l.count l.items.items ++ items_where_true (drop l.i l.flags) (drop l.i l.items.items) ≡ items_where_true l.flags l.fn.items.items;
}
