use Rattle.article_write_spec.specs.Drafts.{say_name}
use Rattle.std.proofs.Common.{Ok, take}
use Rattle.article_steps.specs.Left.{Adds}
use Rattle.article_write_spec.specs.Drafts.{write_each}
use Rattle.article_steps.proofs.given.write_names.Given as goal

-- those up to here are written
abbrev pub invariant-loop-name : goal.invariant-loop-name
invariant-loop-name g l = record {
  adds : Adds {T = Unit {0}} {E = Unit {0}} l.terms (write_each (say_name) (take l.name-index l.names)) l.fn.keys (g.S.Sink.got l.fn.sink)
      (g.S.Sink.faults l.fn.sink) l.keys l.room.room (g.S.Sink.got l.sink) (g.S.Sink.faults l.sink) (Ok tt);
}
