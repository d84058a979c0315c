use Rattle.std.proofs.lemmas.Option.{slice_get_within}
use Rattle.hol_term.proofs.SubstitutionTurns.{substituting_begins, substituting_gives}
use Rattle.hol_term.proofs.TermTable.image_by_parts.Goals as goal

pub loop-task-init : goal.loop-task-init
loop-task-init c = rw (c.in_ok-push.ensures.pushed, c.new-walk.ensures.tasks, c.new-walk.ensures.made)
    (substituting_begins c.args.self.now c.args.putting.now.types.now c.args.putting.now.terms.now c.args.id _ c.requires.id c.requires.pairs
    c.new-walk.ensures.images)

pub loop-task-smaller : goal.loop-task-smaller
loop-task-smaller c =
    let w = rw c.in-Some.ensures.popped at c.loop-task.invariant in
    rw c.in-Some.ensures.popped (c.in_ok-substitution_turn.ensures.less _ _ w)

pub returns-clause-known : goal.returns-clause-known
returns-clause-known c =
    let w = rw c.in_default.ensures.popped at c.loop-task.invariant in
    let v = rw c.take.ensures.made at w in
    slice_get_within _ _ _ (substituting_gives _ _ _ _ _ _ _ c.take.result v)
