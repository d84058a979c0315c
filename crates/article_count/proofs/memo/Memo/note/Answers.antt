use Rattle.article_count.proofs.NotedPlaces.{place-noted}
use Rattle.article_count.proofs.memo.Memo.note.Goals as goal

pub returns : goal.returns
returns c = record { noted = place-noted c.args.self.now (record { entries = c.insert.new.self }) c.args.place c.args.number c.in_ok-insert.ensures.updates.0 }
