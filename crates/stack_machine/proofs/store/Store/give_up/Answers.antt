use Rattle.std.proofs.Common.{◌≡◌, ◌+◌, ap, sym, subst, ◌∙◌, length, map}
use Rattle.std.proofs.Math.Path.{ap₂}
use Rattle.std.specs.List.{items_where_true}
use Rattle.stack_machine.specs.Collecting.{AreBefore, IsClosed, numbered_cell, numbering}
use Rattle.stack_machine.proofs.Collected.{AreBefore-cells, collected-AreCells, collected-Moves, kept_cells}
use Rattle.stack_machine.proofs.Cells.{length-stored}
use Rattle.stack_machine.proofs.store.Store.give_up.Goals as goal

pub hold_parts-requires-clause-count : goal.hold_parts-requires-clause-count
hold_parts-requires-clause-count c = c.requires.cells ∙ ap (λ m. length m.lists) (sym c.self.view_is) ∙ length-stored _ _ _ c.self.inside.cells.items ∙ ap
    length (sym c.deref.ensures.value)

pub hold_parts-requires-clause-before : goal.hold_parts-requires-clause-before
hold_parts-requires-clause-before c =
    let e = c.requires.names ∙ ap (λ m. length m.names) (sym c.self.view_is) in
    rw c.deref.ensures.value (subst (λ n. AreBefore n c.self.inside.cells.items) (sym e) (AreBefore-cells _ _ _ _ c.self.invariant.cells_known))

pub keep_set-requires-2 : goal.keep_set-requires-2
keep_set-requires-2 c = ap length c.deref-3.ensures.value ∙ ap (λ h. length h.cells) c.held.view_is ∙ c.hold_parts.ensures.more.cell_count ∙ c.requires.cells
    ∙ ap (λ m. length m.lists) (sym c.self.view_is) ∙ length-stored _ _ _ c.self.inside.cells.items

-- the names and the cells that stay
names : (c : goal.After-drop-held-inside-3) → c.keep_set.new.items.items ≡ items_where_true c.hold_parts.new.self.names c.self.inside.names.items
names c = c.keep_set.ensures ∙ ap (λ flags. items_where_true flags c.self.inside.names.items) (c.deref-2.ensures.value ∙ ap (λ h. h.names) c.held.view_is)

cells : (c : goal.After-drop-held-inside-3) → c.rewrite_cells.new.cells.items
    ≡ map (numbered_cell (numbering c.hold_parts.new.self)) (items_where_true c.hold_parts.new.self.cells c.self.inside.cells.items)
cells c = kept_cells c.hold_parts.new.self c.in_ok-numbers.numbers c.deref-3.result.now c.self.inside.cells.items c.keep_set-2.new.items.items
    c.rewrite_cells.new.cells.items (c.deref-3.ensures.value ∙ ap (λ h. h.cells) c.held.view_is) c.keep_set-2.ensures c.in_ok-numbers.ensures
    c.rewrite_cells.ensures

-- a flag for each cell, and what held cells hold is held
count : (c : goal.After-drop-held-inside-3) → length c.hold_parts.new.self.cells ≡ length c.self.inside.cells.items
count c = c.hold_parts.ensures.more.cell_count ∙ c.requires.cells ∙ ap (λ m. length m.lists) (sym c.self.view_is)
    ∙ length-stored _ _ _ c.self.inside.cells.items

closed : (c : goal.After-drop-held-inside-3) → IsClosed c.hold_parts.new.self c.self.inside.cells.items
closed c = subst (IsClosed c.hold_parts.new.self) c.deref.ensures.value c.hold_parts.ensures.closed

pub invariant_of-self : goal.invariant_of-self
invariant_of-self c = record {
  cells_known = rw (names c, cells c)
      (collected-AreCells _ c.self.inside.names.items _ c.self.inside.cells.items c.hold_parts.new.self (count c) (closed c) c.self.invariant.cells_known);
  run_known = c.self.invariant.run_known;
  assumed = c.self.invariant.assumed;
  exported = c.self.invariant.exported;
}

pub returns-clause-moved : goal.returns-clause-moved
returns-clause-moved c = rw (← c.self.view_is, names c, cells c, c.in_ok-numbers.ensures)
    (collected-Moves _ c.self.inside.names.items _ c.self.inside.cells.items c.hold_parts.new.self (count c) (closed c) c.self.invariant.cells_known c.args.held
    c.hold_parts.ensures.more)

pub returns-clause-left : goal.returns-clause-left
returns-clause-left c = ap₂ (λ a b. a + b) (c.len.ensures ∙ c.keep_set.new.items.ok.0)
    (c.len-2.ensures ∙ c.rewrite_cells.new.cells.ok.0 ∙ sym (length-stored _ _ _ c.rewrite_cells.new.cells.items))
