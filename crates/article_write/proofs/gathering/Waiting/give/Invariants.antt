use Rattle.std.proofs.Common.{◌≡◌, ◌-◌, ◌≤◌, take, drop}
use Rattle.article_write.specs.Gathering.{told_length, told_with}
use Rattle.article_write.proofs.gathering.Waiting.give.Given as goal

-- what the sink tells and what is waiting are as before
abbrev pub invariant-loop-self : goal.invariant-loop-self
invariant-loop-self g l = record {
  order : l.self-inside.start ≤ l.self-inside.end;
  room : l.self-inside.end ≤ 4096;
  kept : told_with (g.S.Sink.got l.sink) (drop l.self-inside.start (take l.self-inside.end l.self-inside.bytes)) ≡ told_with (g.S.Sink.got l.fn.sink) l.fn.self;
  grown : told_length (g.S.Sink.got l.fn.sink) ≤ told_length (g.S.Sink.got l.sink);
  later : g.S.Sink.faults l.fn.sink ≤ g.S.Sink.faults l.sink;
}

abbrev pub decreases-loop-self : goal.decreases-loop-self
decreases-loop-self g l = l.self-inside.end - l.self-inside.start
