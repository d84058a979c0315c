use Rattle.std.proofs.Common.{◌∙◌, sym}
use Rattle.hol_type.proofs.EntryLaws.{length-trees_of}
use Rattle.hol_type.proofs.table.TypeTable.count.Goals as goal

pub returns-clause-count : goal.returns-clause-count
returns-clause-count c = rw (← c.self.view_is) (c.len.ensures ∙ sym (length-trees_of c.self.inside.entries))
