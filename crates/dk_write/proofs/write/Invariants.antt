use Rattle.std.proofs.Common.{◌≡◌, [], ◌≤◌, drop}
use Rattle.lp_spec.specs.ShortNames.{shortened_after}
use Rattle.lp_spec.specs.Text.{declarations_text, written}
use Rattle.holide_sig.specs.Modules.{declarations_of}
use Rattle.dk_write.specs.Writing.{Gained}
use Rattle.dk_write.proofs.write.Given as goal

-- what is left are the lines of the declarations from the index on
abbrev pub invariant-loop-i : goal.invariant-loop-i
invariant-loop-i g l = record {
  text : Gained (g.S.Sink.got l.fn.sink) (written (declarations_of l.fn.source) l.fn.bounds)
      (declarations_text (declarations_of l.fn.source) (drop l.i (shortened_after [] (declarations_of l.fn.source))) (drop l.i l.fn.bounds))
      (g.S.Sink.got l.sink);
  room : l.path.room ≡ l.fn.path.room;
  later : g.S.Sink.faults l.fn.sink ≤ g.S.Sink.faults l.sink;
}
