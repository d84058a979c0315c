use Rattle.std.proofs.Common.{ap, ◌∙◌, slice_set}
use Rattle.stack_machine.proofs.Turned.{set-drop}
use Rattle.stack_machine.proofs.stack.Stack.put.Goals as goal

pub returns : goal.returns
returns c = c.set.ensures ∙ ap (λ xs. slice_set xs 0 c.args.object) c.drop_top.ensures ∙ set-drop _ c.args.count c.args.object c.requires.some c.requires.there
