use Rattle.std.proofs.Common.{arith}
use Rattle.hol_type.specs.TableLaws.{tree_at-Holds}
use Rattle.hol_type.proofs.EntryLaws.{length-trees_of, trees_of-Holds}
use Rattle.hol_type.proofs.table.TypeTable.entry.Goals as goal

pub get-requires : goal.get-requires
get-requires c =
    let h = rw (← c.self.view_is) at c.requires in
    omega (arith, length-trees_of c.self.inside.entries, h)

pub returns-clause-is : goal.returns-clause-is
returns-clause-is c = rw (← c.self.view_is) (trees_of-Holds _ _ _ (c.self.invariant.lower _ _ c.get.ensures) c.get.ensures)

pub returns-clause-lower : goal.returns-clause-lower
returns-clause-lower c = c.self.invariant.lower _ _ c.get.ensures

pub returns-clause-measured : goal.returns-clause-measured
returns-clause-measured c =
    let h = rw (← c.self.view_is) at c.requires in
    rw (← c.self.view_is) (c.self.invariant.measured _ _ _ c.get.ensures (tree_at-Holds _ _ h))
