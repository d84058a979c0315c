use Rattle.std.proofs.Common.{◌≤◌, ◌+◌, ◌++◌, length}
use Rattle.dk_write.specs.Writing.{Gained}
use Rattle.dk_write.proofs.gathered.Gathered.write.Given as goal

-- what is left are the bytes gathered and the rest
abbrev pub invariant-loop-rest : goal.invariant-loop-rest
invariant-loop-rest g l = record {
  text : Gained (g.S.Sink.got l.fn.sink) (l.fn.self ++ l.fn.piece) (l.self ++ l.rest) (g.S.Sink.got l.sink);
  later : g.S.Sink.faults l.fn.sink ≤ g.S.Sink.faults l.sink;
}

abbrev pub decreases-loop-rest : goal.decreases-loop-rest
decreases-loop-rest g l = length l.self + length l.rest
