use Rattle.std.proofs.Common.{◌≡◌, ◌++◌, map, take, drop}
use Rattle.stack_machine.specs.Collecting.{numbered_cell}
use Rattle.stack_machine.proofs.collect.Numbers.rewrite_cells.Given as goal

abbrev pub invariant-loop-cell : goal.invariant-loop-cell
invariant-loop-cell l = l.cell-items ≡ map (numbered_cell l.self) (take l.cell-index l.fn.cells.items) ++ drop l.cell-index l.fn.cells.items
