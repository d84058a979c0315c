use Rattle.std.proofs.Common.{◌≤◌}
use Rattle.bridge_base.specs.Outside.{Gains}
use Rattle.article_spec.specs.Trial.{blocks, lines}
use Rattle.vectors.proofs.write_blocks.Given as goal

-- the blocks up to here are written
abbrev pub invariant-loop-before : goal.invariant-loop-before
invariant-loop-before g l = record {
  text : Gains (g.S.Sink.got l.fn.sink) (lines (blocks l.before)) (g.S.Sink.got l.sink);
  later : g.S.Sink.faults l.fn.sink ≤ g.S.Sink.faults l.sink;
}
