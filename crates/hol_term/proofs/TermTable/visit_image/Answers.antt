use Rattle.std.proofs.Common.{refl, ◌∷◌}
use Rattle.hol_term.proofs.WalkTurns.{OnOk-map}
use Rattle.hol_term.proofs.SubstitutionTurns.{same_substituting, found_image, visit_known, visit_less}
use Rattle.hol_term.proofs.TermTable.visit_image.Goals as goal

pub image_found-requires-clause-id : goal.image_found-requires-clause-id
image_found-requires-clause-id c = visit_known _ _ _ _ _ _ _ _ _ c.requires.walk.2

pub returns-in-Some-clause-walk : goal.returns-in-Some-clause-walk
returns-in-Some-clause-walk c =
    let walk = c.args.walk.now in
    OnOk-map c.push.result (λ made from root w.
    same_substituting from c.args.putting.now.types.now c.args.putting.now.terms.now c.args.self.now root walk.tasks walk.tasks (c.in-Some.made ∷ walk.made) _
    walk.images walk.images refl made refl
    (found_image from c.args.self.now root c.args.putting.now.types.now c.args.putting.now.terms.now c.args.id walk.tasks walk.made walk.images w c.in-Some.made
    c.in-Some.ensures))
    c.push.ensures.pushed

pub returns-in-Some-clause-less : goal.returns-in-Some-clause-less
returns-in-Some-clause-less c =
    let walk = c.args.walk.now in
    OnOk-map c.push.result
    (λ made from root w. visit_less from c.args.self.now root c.args.putting.now.types.now c.args.putting.now.terms.now c.args.id walk.tasks walk.made
    walk.images) c.push.ensures.pushed
