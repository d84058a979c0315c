use Rattle.std.proofs.Common.{ap, sym, ◌∙◌, length}
use Rattle.std.proofs.Math.Path.{ap₂}
use Rattle.stack_machine.specs.Collecting.{nothing_held}
use Rattle.stack_machine.proofs.Passing.{IfOk-map}
use Rattle.stack_machine.proofs.Cells.{length-stored}
use Rattle.stack_machine.proofs.store.Store.none_held.Goals as goal

pub returns : goal.returns
returns c =
    let names = c.len.ensures ∙ c.self.inside.names.ok.0 ∙ ap (λ m. length m.names) c.self.view_is in
    let cells = c.len-2.ensures ∙ c.self.inside.cells.ok.0 ∙ sym (length-stored _ _ _ c.self.inside.cells.items) ∙ ap (λ m. length m.lists) c.self.view_is in
    IfOk-map c.none.result _ _ c.none.ensures (λ held e. e ∙ ap₂ nothing_held names cells)
