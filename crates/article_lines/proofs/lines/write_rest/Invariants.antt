use Rattle.std.proofs.Common.{◌≤◌, take}
use Rattle.bridge_base.specs.Outside.{Gains}
use Rattle.article_lines.specs.Writing.{rest_text}
use Rattle.article_lines.proofs.lines.write_rest.Given as goal

-- the components up to here are written
abbrev pub invariant-loop-index : goal.invariant-loop-index
invariant-loop-index g l = record {
  text : Gains (g.S.Sink.got l.fn.sink) (rest_text (take l.index l.name)) (g.S.Sink.got l.sink);
  later : g.S.Sink.faults l.fn.sink ≤ g.S.Sink.faults l.sink;
  from : 1 ≤ l.index;
}
