use Rattle.hol_type.specs.TableLaws.{AreKnown-below}
use Rattle.hol_type.proofs.table.TypeTable.primitive.Goals as goal

pub add-requires-clause-parts : goal.add-requires-clause-parts
add-requires-clause-parts c = rw c.in_ok-from_slice.ensures.items (AreKnown-below _ _ c.requires)

pub add-requires-clause-measured : goal.add-requires-clause-measured
add-requires-clause-measured c = rw c.in_ok-from_slice.ensures.items (c.measures-measures.ensures _)
