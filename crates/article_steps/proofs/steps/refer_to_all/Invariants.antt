use Rattle.std.proofs.Common.{ℕ, Ok, take}
use Rattle.hol_term.specs.Tables.{Trees}
use Rattle.article_write_spec.specs.Drafts.{write_each}
use Rattle.article_write_spec.specs.WrittenSteps.{write_premise}
use Rattle.article_steps.specs.Left.{IsOpen, Adds}
use Rattle.article_steps.proofs.steps.refer_to_all.Given as goal

-- those up to here are told
abbrev pub invariant-loop-id : goal.invariant-loop-id
invariant-loop-id g l = record {
  adds : (trees : Trees) (room : ℕ) → IsOpen trees l.keys room
      → Adds {T = Unit {0}} {E = Unit {0}} trees (write_each write_premise (take l.id-index l.ids)) l.keys (g.S.Sink.got l.fn.sink) (g.S.Sink.faults l.fn.sink)
      l.keys room (g.S.Sink.got l.sink) (g.S.Sink.faults l.sink) (Ok tt);
}
