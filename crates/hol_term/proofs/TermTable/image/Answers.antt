use Rattle.std.proofs.Common.{sym, ap, ◌∙◌, Some}
use Rattle.hol_term.specs.TableLaws.{term_in-Some}
use Rattle.hol_term.proofs.TermTable.image.Goals as goal

pub returns-then-is_left-clause-made : goal.returns-then-is_left-clause-made
returns-then-is_left-clause-made c =
    term_in-Some c.args.self.now.terms c.args.id.0 c.requires.id ∙ ap Some (sym (c.is_left.ensures c.if-is_left.true))
