use Rattle.std.proofs.Common.{◌≤◌, take}
use Rattle.bridge_base.specs.Outside.{Gains}
use Rattle.article_lines.specs.Writing.{pieces_text}
use Rattle.article_lines.proofs.lines.put_all.Given as goal

-- the pieces up to here are written
abbrev pub invariant-loop-piece : goal.invariant-loop-piece
invariant-loop-piece g l = record {
  text : Gains (g.S.Sink.got l.fn.sink) (pieces_text (take l.piece-index l.pieces)) (g.S.Sink.got l.sink);
  later : g.S.Sink.faults l.fn.sink ≤ g.S.Sink.faults l.sink;
}
