use Rattle.std.proofs.Common.{sym, []}
use Rattle.stack_machine.specs.Collecting.{numbered}
use Rattle.stack_machine.proofs.Collected.{map-reverse_aux}
use Rattle.stack_machine.proofs.stack.Stack.renumber.Goals as goal

pub returns : goal.returns
returns c = rw (← c.self.view_is, c.rewrite_all.ensures) (sym (map-reverse_aux (numbered c.args.numbers.now) c.self.inside.items.items []))
