use Rattle.stack_machine.proofs.Collected.{AreRootsHeld, roots_held, stack_known, entries_known, shown_same}
use Rattle.stack_machine.proofs.machine.Machine.collect.Goals as goal

pub give_up-requires-clause-names : goal.give_up-requires-clause-names
give_up-requires-clause-names c =
    (roots_held _ _ _ _ c.self.inside.stack c.self.inside.dictionary.entries c.in_ok-held.ensures c.hold.ensures c.hold_values.ensures c.self.invariant.0
    c.self.invariant.1).name_count

pub give_up-requires-clause-cells : goal.give_up-requires-clause-cells
give_up-requires-clause-cells c =
    (roots_held _ _ _ _ c.self.inside.stack c.self.inside.dictionary.entries c.in_ok-held.ensures c.hold.ensures c.hold_values.ensures c.self.invariant.0
    c.self.invariant.1).cell_count

pub invariant_of-self : goal.invariant_of-self
invariant_of-self c = rw c.in_err-numbers.ensures.unchanged c.self.invariant

roots : (c : goal.After-drop-numbers-inside-2) → AreRootsHeld c.self.inside.store c.hold_values.new.self c.self.inside.stack c.self.inside.dictionary.entries
roots c = roots_held _ _ _ _ c.self.inside.stack c.self.inside.dictionary.entries c.in_ok-held.ensures c.hold.ensures c.hold_values.ensures c.self.invariant.0
    c.self.invariant.1

pub invariant_of-self-2 : goal.invariant_of-self-2
invariant_of-self-2 c = rw (c.renumber.ensures, c.rewrite_values.ensures, c.forget.ensures) (
  stack_known c.in_ok-numbers.ensures.moved c.self.inside.stack c.self.invariant.0 (roots c).stack,
  entries_known c.in_ok-numbers.ensures.moved c.self.inside.dictionary.entries c.self.invariant.1 (roots c).entries,
  tt,
)

pub returns : goal.returns
returns c = rw (← c.self.view_is, c.renumber.ensures, c.rewrite_values.ensures)
    (shown_same c.in_ok-numbers.ensures.moved c.self.inside.stack c.self.inside.dictionary.entries c.self.inside.progress c.self.invariant.0 (roots c).stack
    c.self.invariant.1 (roots c).entries)
