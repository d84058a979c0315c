use Rattle.std.proofs.Common.{Ok, take}
use Rattle.hol_spec.specs.Proofs.{steps_of}
use Rattle.article_write_spec.specs.Drafts.{write_each}
use Rattle.article_lines.specs.Flagged.{flag}
use Rattle.article_steps.specs.Left.{Adds}
use Rattle.article_steps.specs.SelectedSteps.{numbered_from, flagged_writer, told_writer}
use Rattle.article_steps.specs.TheoremKeys.{AreNewFrom}
use Rattle.article_steps.proofs.article.write_steps.Given as goal

-- those up to here are written, and theorems from here on have no key
abbrev pub invariant-loop-id : goal.invariant-loop-id
invariant-loop-id g l = record {
  adds : Adds {T = Unit {0}} {E = Unit {0}} l.source.proof.now.trees
      (write_each (told_writer (flag l.source.told.now) (flagged_writer l.source.number (flag l.source.is_export.now)))
      (take l.id (numbered_from 0 (steps_of l.source.proof.now.made)))) l.fn.keys (g.S.Sink.got l.fn.sink) (g.S.Sink.faults l.fn.sink) l.keys l.room.room
      (g.S.Sink.got l.sink) (g.S.Sink.faults l.sink) (Ok tt);
  new : AreNewFrom (steps_of l.source.proof.now.made) l.keys l.id;
}
