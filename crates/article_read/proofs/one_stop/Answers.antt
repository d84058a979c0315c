use Rattle.article_laws.specs.ReadingLaws.{opens_or_stops, opens_front}
use Rattle.article_read.proofs.one_stop.Goals as goal

pub returns : goal.returns
returns c = record { apart = opens_or_stops; front = opens_front }
