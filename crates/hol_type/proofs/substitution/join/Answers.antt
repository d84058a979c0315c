use Rattle.std.proofs.Common.{arith}
use Rattle.std.proofs.lemmas.Result.{on_ok_weaker}
use Rattle.hol_type.specs.TableLaws.{AreKnown-below}
use Rattle.hol_type.proofs.WalkLaws.{OnOk-map3, parts_all, work-Keeps}
use Rattle.hol_type.proofs.SubstitutionTurns.{made_known, walk_join}
use Rattle.hol_type.proofs.substitution.join.Goals as goal

pub parts-requires : goal.parts-requires
parts-requires c = let w = c.requires.2 in parts_all _ _ _ _ _ c.in-Op.ensures.distinct w.ends.0 c.in-Op.ensures.is c.in-Op.ensures.lower w.ends.1

pub measures-measures-requires : goal.measures-measures-requires
measures-measures-requires c = rw c.deref.ensures.value (made_known _ _ _ _ _ _ _ c.requires.2 _ _ c.in_ok-made.ensures)

pub add-requires-clause-parts : goal.add-requires-clause-parts
add-requires-clause-parts c = AreKnown-below _ _ (made_known _ _ _ _ _ _ _ c.requires.2 _ _ c.in_ok-made.ensures)

pub add-requires-clause-measured : goal.add-requires-clause-measured
add-requires-clause-measured c = rw (← c.deref.ensures.value) (c.measures-measures.ensures _)

pub returns-clause-walk : goal.returns-clause-walk
returns-clause-walk c =
    let held = rw c.in_ok-clone.ensures.cases at c.in_ok-id_made.ensures.made in
    OnOk-map3 c.note.result
    (λ only new kept. walk_join _ _ c.args.id _ _ _ _ c.in_ok-id_made.id_made c.in-Op.name.now c.in-Op.args.now c.in_ok-made.made.items c.add.ensures.keeps
    c.in-Op.ensures.is c.in_ok-made.ensures held only new kept)
    c.note.ensures.noted c.note.ensures.new c.note.ensures.kept

pub returns-clause-less : goal.returns-clause-less
returns-clause-less c =
    let w = c.requires.2 in
    on_ok_weaker c.note.result (λ n. omega (arith, work-Keeps c.add.ensures.keeps c.requires.1 c.args.walk.now.tasks _ w.ends.2)) c.note.ensures.new
