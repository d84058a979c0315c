use Rattle.std.proofs.Common.{◌≤◌, take}
use Rattle.bridge_base.specs.Outside.{Gains}
use Rattle.article_write_spec.specs.ItemTexts.{component_text}
use Rattle.article_lines.proofs.lines.write_component.Given as goal

-- the bytes up to here are written
abbrev pub invariant-loop-byte : goal.invariant-loop-byte
invariant-loop-byte g l = record {
  text : Gains (g.S.Sink.got l.fn.sink) (component_text (take l.byte-index l.component)) (g.S.Sink.got l.sink);
  later : g.S.Sink.faults l.fn.sink ≤ g.S.Sink.faults l.sink;
}
