use Rattle.std.proofs.Common.{◌∙◌}
use Rattle.hol_defs.proofs.FirstTermLaws.{noted-next}
use Rattle.hol_defs.proofs.lists.note_all.Goals as goal

pub loop-equation-preserved : goal.loop-equation-preserved
loop-equation-preserved c = λ v. c.in_ok-note.ensures v ∙ noted-next c.loop-equation.found c.loop-equation.yielded c.in-Some.equation c.loop-equation.invariant
    v
