use Rattle.std.proofs.Common.{ap, ◌∙◌, slice_set}
use Rattle.stack_machine.proofs.Turned.{set-five}
use Rattle.stack_machine.proofs.stack.Stack.put_five.Goals as goal

pub returns : goal.returns
returns c =
    c.set-5.ensures
    ∙ ap (λ xs. slice_set xs 0 c.args.fifth) (c.set-4.ensures
    ∙ ap (λ xs. slice_set xs 1 c.args.fourth) (c.set-3.ensures
    ∙ ap (λ xs. slice_set xs 2 c.args.third) (c.set-2.ensures
    ∙ ap (λ xs. slice_set xs 3 c.args.second) c.set.ensures)))
    ∙ set-five _ c.args.first c.args.second c.args.third c.args.fourth c.args.fifth c.requires
