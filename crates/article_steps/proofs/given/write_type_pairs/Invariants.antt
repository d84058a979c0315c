use Rattle.article_steps.specs.Given.{type_pair_writer, type_pair_at}
use Rattle.std.proofs.Common.{Ok, take}
use Rattle.article_steps.specs.Left.{Adds}
use Rattle.article_write_spec.specs.Drafts.{write_each}
use Rattle.article_steps.proofs.given.write_type_pairs.Given as goal

-- those up to here are written
abbrev pub invariant-loop-pair : goal.invariant-loop-pair
invariant-loop-pair g l = record {
  adds : Adds {T = Unit {0}} {E = Unit {0}} l.terms (write_each (λ p. type_pair_writer (type_pair_at l.terms p)) (take l.pair-index l.pairs)) l.fn.keys
      (g.S.Sink.got l.fn.sink) (g.S.Sink.faults l.fn.sink) l.keys l.room.room (g.S.Sink.got l.sink) (g.S.Sink.faults l.sink) (Ok tt);
}
