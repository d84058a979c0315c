use Rattle.std.proofs.Common.{◌∙◌, sym}
use Rattle.lp_term.proofs.ColumnLaws.{length-trees_of}
use Rattle.lp_term.proofs.LpTable.count.Goals as goal

pub returns-clause-count : goal.returns-clause-count
returns-clause-count c = rw (← c.self.view_is) (c.len.ensures.count ∙ sym (length-trees_of c.self.inside.shapes))
