use Rattle.std.proofs.Common.{◌≡◌, ◌++◌, map, take, drop}
use Rattle.stack_machine.specs.Collecting.{numbered}
use Rattle.stack_machine.proofs.collect.Numbers.rewrite_all.Given as goal

abbrev pub invariant-loop-object : goal.invariant-loop-object
invariant-loop-object l = l.object-items ≡ map (numbered l.self) (take l.object-index l.fn.objects.items) ++ drop l.object-index l.fn.objects.items
