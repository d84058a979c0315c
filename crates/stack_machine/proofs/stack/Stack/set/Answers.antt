use Rattle.std.proofs.Common.{◌∙◌}
use Rattle.stack_machine.proofs.Turned.{reverse-slice_set}
use Rattle.stack_machine.proofs.stack.Stack.set.Goals as goal

pub returns : goal.returns
returns c = rw (← c.self.view_is) (reverse-slice_set _ c.len.result c.args.depth _ (c.len.ensures ∙ c.self.inside.items.ok.0) (rw c.self.view_is c.requires))
