use Rattle.hol_term.proofs.SeenLaws.{has_noted}
use Rattle.hol_term.proofs.seen.Seen.has.Goals as goal

pub returns : goal.returns
returns c = rw (← c.self.view_is) (has_noted c.args.id c.self.inside.ids.keys c.contains.result c.contains.ensures)
