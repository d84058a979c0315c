use Rattle.std.proofs.Common.{ap, ◌∙◌, slice_set}
use Rattle.stack_machine.proofs.Turned.{set-two}
use Rattle.stack_machine.proofs.stack.Stack.put_two.Goals as goal

pub returns : goal.returns
returns c =
    c.set-2.ensures
    ∙ ap (λ xs. slice_set xs 0 c.args.second) (c.set.ensures ∙ ap (λ xs. slice_set xs 1 c.args.first) c.drop_top.ensures)
    ∙ set-two _ c.args.count c.args.first c.args.second c.requires.two c.requires.there
