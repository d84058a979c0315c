use Rattle.std.proofs.Common.{◌∙◌, sym}
use Rattle.hol_term.proofs.EntryLaws.{length-terms_of}
use Rattle.hol_term.proofs.TermTable.count.Goals as goal

pub returns : goal.returns
returns c = rw (← c.self.view_is) (c.len.ensures.count ∙ sym (length-terms_of c.self.inside.types c.self.inside.entries))
