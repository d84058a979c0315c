use Rattle.std.proofs.Common.{◌≡◌}
use Rattle.std.specs.List.{fold}
use Rattle.std.specs.BTreeMap.{values}
use Rattle.stack_machine.specs.Collecting.{holding}
use Rattle.stack_machine.proofs.collect.Held.hold_values.Given as goal

abbrev pub invariant-loop-value : goal.invariant-loop-value
invariant-loop-value l = fold holding l.self l.value-iterator ≡ fold holding l.fn.self (values l.dictionary)
