use Rattle.std.proofs.Common.{◌≤◌, take}
use Rattle.std.specs.List.{flat_map}
use Rattle.bridge_base.specs.Outside.{Gains}
use Rattle.bridge_answer.proofs.delivery.write_parts.Given as goal

abbrev pub invariant-loop-part : goal.invariant-loop-part
invariant-loop-part g l = record {
  gained : Gains (g.S.Sink.got l.fn.sink) (flat_map (λ part. part.now) (take l.part-index l.parts)) (g.S.Sink.got l.sink);
  later : g.S.Sink.faults l.fn.sink ≤ g.S.Sink.faults l.sink;
}
