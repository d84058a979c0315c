use Rattle.std.proofs.Common.{ap, ◌∙◌, take}
use Rattle.stack_machine.proofs.Turned.{reverse-take}
use Rattle.stack_machine.proofs.stack.Stack.drop_top.Goals as goal

pub returns : goal.returns
returns c = rw (← c.self.view_is)
    (reverse-take c.self.inside.items.items _ c.len.result c.args.count (c.len.ensures ∙ c.self.inside.items.ok.0)
    (c.truncate.ensures.items ∙ ap (λ n. take n c.self.inside.items.items) c.saturating_sub-keep.ensures))
