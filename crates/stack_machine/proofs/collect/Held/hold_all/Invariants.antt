use Rattle.std.proofs.Common.{◌≡◌, drop}
use Rattle.std.specs.List.{fold}
use Rattle.stack_machine.specs.Collecting.{holding}
use Rattle.stack_machine.proofs.collect.Held.hold_all.Given as goal

abbrev pub invariant-loop-object : goal.invariant-loop-object
invariant-loop-object l = fold holding l.self (drop l.object-index l.objects) ≡ fold holding l.fn.self l.objects
