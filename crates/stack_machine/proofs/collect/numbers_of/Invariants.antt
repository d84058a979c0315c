use Rattle.std.proofs.Common.{◌≡◌, ◌≤◌, ◌++◌, drop}
use Rattle.stack_machine.specs.Collecting.{new_numbers}
use Rattle.stack_machine.proofs.collect.numbers_of.Given as goal

abbrev pub invariant-loop-flag : goal.invariant-loop-flag
invariant-loop-flag l = record {
  before : l.next ≤ l.flag-index;
  numbered : l.numbers.items ++ new_numbers l.next (drop l.flag-index l.flags) ≡ new_numbers 0 l.flags;
}
