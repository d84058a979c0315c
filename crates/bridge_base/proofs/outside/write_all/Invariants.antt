use Rattle.std.proofs.Common.{◌≤◌, ◌-◌, length, take}
use Rattle.bridge_base.specs.Outside.{Gains}
use Rattle.bridge_base.proofs.outside.write_all.Given as goal

abbrev pub invariant-loop-written : goal.invariant-loop-written
invariant-loop-written g l = record {
  within : l.written ≤ length l.piece;
  gained : Gains (g.S.Sink.got l.fn.sink) (take l.written l.piece) (g.S.Sink.got l.sink);
  later : g.S.Sink.faults l.fn.sink ≤ g.S.Sink.faults l.sink;
}

abbrev pub decreases-loop-written : goal.decreases-loop-written
decreases-loop-written g l = length l.piece - l.written
