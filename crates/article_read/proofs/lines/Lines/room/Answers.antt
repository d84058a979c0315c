use Rattle.std.proofs.Common.{length, ap, arith}
use Rattle.article_read.specs.OpenLines.{line_room, article_room}
use Rattle.article_read.proofs.lines.Lines.room.Goals as goal

pub returns-then-room-left-clause-room : goal.returns-then-room-left-clause-room
returns-then-room-left-clause-room c =
    let line = c.self.invariant.line in
    let rest = ap (λ r. r.rest) c.self.view_is in
    let offset = ap (λ r. r.offset) c.self.view_is in
    line_room (omega (arith, line.short, ap length rest, c.len-held.ensures))
    (omega (arith, line.within, line.short, offset, c.len-held.ensures, c.if-room-left.true))

pub returns-clause-room : goal.returns-clause-room
returns-clause-room c =
    let line = c.self.invariant.line in
    let rest = ap (λ r. r.rest) c.self.view_is in
    let offset = ap (λ r. r.offset) c.self.view_is in
    article_room (omega (arith, line.within, offset, ap length rest, c.len-held.ensures))
    (omega (arith, line.within, line.short, offset, ap length rest, c.len-held.ensures, c.if-room-left.false))
