use Rattle.std.proofs.Common.{◌<◌, arith, sym, subst, length}
use Rattle.stack_machine.specs.Stored.{run_of, stored}
use Rattle.stack_machine.proofs.Cells.{CellAt, cell_at-stored, length-stored}
use Rattle.stack_machine.proofs.store.Store.cell.Goals as goal

pub cell_in-requires : goal.cell_in-requires
cell_in-requires c =
    let r : c.args.id.0 < length
    (stored c.self.inside.proof.trees c.self.inside.names.items
    (run_of c.self.inside.proof c.self.inside.assumptions c.self.inside.exports c.self.inside.pool) c.self.inside.cells.items).lists =
    subst (λ m. c.args.id.0 < length m.lists) (sym c.self.view_is) c.requires in
    let e = length-stored c.self.inside.proof.trees c.self.inside.names.items
    (run_of c.self.inside.proof c.self.inside.assumptions c.self.inside.exports c.self.inside.pool) c.self.inside.cells.items in
    omega (arith, e, r)

found : (c : goal.After-cell_in) → CellAt
    (stored c.self.inside.proof.trees c.self.inside.names.items (run_of c.self.inside.proof c.self.inside.assumptions c.self.inside.exports c.self.inside.pool)
    c.self.inside.cells.items) c.cell_in.result c.args.id.0
found c = cell_at-stored _ _ _ _ c.args.id.0 c.cell_in.result c.self.invariant.cells_known c.cell_in.ensures

pub returns-clause-is : goal.returns-clause-is
returns-clause-is c = rw (← c.self.view_is) (found c).is

pub returns-clause-head : goal.returns-clause-head
returns-clause-head c = rw (← c.self.view_is) (found c).head

pub returns-clause-tail : goal.returns-clause-tail
returns-clause-tail c = rw (← c.self.view_is) (found c).tail

pub returns-clause-lower : goal.returns-clause-lower
returns-clause-lower c = (found c).lower
