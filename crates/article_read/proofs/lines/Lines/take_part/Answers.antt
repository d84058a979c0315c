use Rattle.std.specs.Result.{result_err}
use Rattle.article_read.proofs.Steps.{part_over, part_kept}
use Rattle.article_read.proofs.lines.Lines.take_part.Goals as goal

pub returns-then-part-room-clause-feeds : goal.returns-then-part-room-clause-feeds
returns-then-part-room-clause-feeds c =
    let room = c.room-room in
    part_over c.args.self.now room.ensures.kept c.requires.none c.args.part.now room.result.0 room.result.1 c.refuse.new.self c.requires.line
    c.if-part-room.true
    room.ensures.room c.refuse.ensures.stopped

pub returns-clause-feeds : goal.returns-clause-feeds
returns-clause-feeds c =
    let room = c.room-room in
    part_kept c.args.self.now room.ensures.kept c.requires.none c.args.part.now room.result.0 room.result.1 (result_err c.keep.result) c.keep.new.self
    c.requires.line c.if-part-room.false room.ensures.room c.keep.ensures.kept
