use Rattle.std.proofs.Common.{length, ◌-◌, ◌≤◌, take}
use Rattle.bridge_base.specs.Outside.{Gains}
use Rattle.bridge_answer.proofs.delivery.write_lines.Given as goal

abbrev pub invariant-loop-written : goal.invariant-loop-written
invariant-loop-written g l = record {
  within : l.written ≤ length l.text;
  gained : Gains (g.O.Sink.got l.fn.out) (take l.written l.text) (g.O.Sink.got l.out);
  later : g.O.Sink.faults l.fn.out ≤ g.O.Sink.faults l.out;
}

abbrev pub decreases-loop-written : goal.decreases-loop-written
decreases-loop-written g l = length l.text - l.written
