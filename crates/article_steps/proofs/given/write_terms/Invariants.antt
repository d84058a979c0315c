use Rattle.hol_term.specs.Tables.{term_at}
use Rattle.article_write_spec.specs.WrittenTerms.{write_term}
use Rattle.std.proofs.Common.{Ok, take}
use Rattle.article_steps.specs.Left.{Adds}
use Rattle.article_write_spec.specs.Drafts.{write_each}
use Rattle.article_steps.proofs.given.write_terms.Given as goal

-- those up to here are written
abbrev pub invariant-loop-id : goal.invariant-loop-id
invariant-loop-id g l = record {
  adds : Adds {T = Unit {0}} {E = Unit {0}} l.terms (write_each (λ id. write_term l.number (term_at l.terms id.0)) (take l.id-index l.ids)) l.fn.keys
      (g.S.Sink.got l.fn.sink) (g.S.Sink.faults l.fn.sink) l.keys l.room.room (g.S.Sink.got l.sink) (g.S.Sink.faults l.sink) (Ok tt);
}
