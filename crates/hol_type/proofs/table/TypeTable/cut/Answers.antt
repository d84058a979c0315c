use Rattle.std.proofs.Common.{arith}
use Rattle.hol_type.proofs.EntryLaws.{length-trees_of}
use Rattle.hol_type.proofs.Cut.{trees_of-take, IsTable-take}
use Rattle.hol_type.proofs.table.TypeTable.cut.Goals as goal

pub invariant_of-self : goal.invariant_of-self
invariant_of-self c = rw c.truncate.ensures (IsTable-take c.args.len c.self.inside.entries c.self.invariant)

pub returns : goal.returns
returns c =
    let h = rw (← c.self.view_is) at c.requires in
    rw (← c.self.view_is, c.truncate.ensures) (trees_of-take c.args.len c.self.inside.entries (omega (arith, h, length-trees_of c.self.inside.entries)))
