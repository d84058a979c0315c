use Rattle.std.proofs.Common.{ap, refl, sym, ◌∙◌, ◌∷◌, Some, arith}
use Rattle.hol_spec.specs.Terms.{bound}
use Rattle.hol_term.specs.declared.substitution.Turn.TheVariants.{Visit, Apply, Abstract}
use Rattle.hol_term.specs.Substituting.{steps}
use Rattle.hol_term.specs.Substitutions.{image_of}
use Rattle.hol_term.specs.Tables.{type_at}
use Rattle.hol_term.specs.TableLaws.{Keeps-refl, Some-term_in}
use Rattle.hol_term.proofs.ImageLaws.{free_image_at, constant_image_at}
use Rattle.hol_term.proofs.WalkTurns.{OnOk-map, OnOk-map2}
use Rattle.hol_term.proofs.SubstitutionTurns.{same_substituting, visit_pairs, kept_image, set_out_application, application_less, set_out_abstraction, abstraction_less}
use Rattle.hol_term.proofs.TermTable.visit_image_anew.Goals as goal

pub free_image-requires-clause-pairs : goal.free_image-requires-clause-pairs
free_image-requires-clause-pairs c = visit_pairs _ _ _ _ _ _ _ _ _ c.requires.walk.2

pub constant_image-requires-clause-pairs : goal.constant_image-requires-clause-pairs
constant_image-requires-clause-pairs c = let g = visit_pairs _ _ _ _ _ _ _ _ _ c.requires.walk.2 in g.known_types

pub type_image-requires-clause-pairs : goal.type_image-requires-clause-pairs
type_image-requires-clause-pairs c = let g = visit_pairs _ _ _ _ _ _ _ _ _ c.requires.walk.2 in g.known_types

pub returns-in_ok-made-in-Free-clause-walk : goal.returns-in_ok-made-in-Free-clause-walk
returns-in_ok-made-in-Free-clause-walk c =
    let walk = c.args.walk.now in
    let made_is =
    free_image_at c.args.self.now c.free_image.new.self c.args.putting.now.types.now c.args.putting.now.terms.now c.args.id.0 c.in-Free.name.now
    c.in_ok-name-in-Free.name (type_at c.args.self.now c.in-Free.ty.0) c.in_ok-name-in-Free.ensures.cases c.in-Free.ensures.is
    c.in_ok-made-in-Free.made c.in_ok-made-in-Free.ensures.made in
    OnOk-map2 c.keep.result (λ made noted from root w.
    same_substituting from c.args.putting.now.types.now c.args.putting.now.terms.now c.free_image.new.self root walk.tasks c.keep.new.self.tasks
    (c.in_ok-made-in-Free.made ∷ walk.made) c.keep.new.self.made c.keep.new.self.images c.keep.new.self.images c.keep.ensures.tasks made refl
    (kept_image from c.args.self.now root c.args.putting.now.types.now c.args.putting.now.terms.now c.args.id walk.tasks walk.made walk.images w
    c.free_image.new.self c.free_image.ensures.keeps c.keep.new.self.images c.in_ok-made-in-Free.made noted made_is))
    c.keep.ensures.made c.keep.ensures.noted

pub returns-in-Bound-clause-walk : goal.returns-in-Bound-clause-walk
returns-in-Bound-clause-walk c =
    let walk = c.args.walk.now in
    let keep = c.keep-in-Bound.new.self in
    let made_is =
    c.in-Bound.ensures.is ∙ ap (λ u. Some (image_of c.args.self.now c.args.putting.now.types.now c.args.putting.now.terms.now u))
    (sym (Some-term_in c.args.self.now.terms c.args.id.0 (bound c.in-Bound.field-0) c.in-Bound.ensures.is)) in
    OnOk-map2 c.keep-in-Bound.result (λ made noted from root w.
    same_substituting from c.args.putting.now.types.now c.args.putting.now.terms.now c.args.self.now root walk.tasks keep.tasks (c.args.id ∷ walk.made)
    keep.made keep.images keep.images c.keep-in-Bound.ensures.tasks made refl
    (kept_image from c.args.self.now root c.args.putting.now.types.now c.args.putting.now.terms.now c.args.id walk.tasks walk.made walk.images w c.args.self.now
    (Keeps-refl c.args.self.now) keep.images c.args.id noted made_is))
    c.keep-in-Bound.ensures.made c.keep-in-Bound.ensures.noted

pub returns-in_ok-made-in-Const-clause-walk : goal.returns-in_ok-made-in-Const-clause-walk
returns-in_ok-made-in-Const-clause-walk c =
    let walk = c.args.walk.now in
    let keep = c.keep-in-Const.new.self in
    let made_is =
    constant_image_at c.args.self.now c.constant_image.new.self c.args.putting.now.types.now c.args.putting.now.terms.now c.args.id.0 c.in-Const.name.now
    c.in_ok-name-in-Const.name (type_at c.args.self.now c.in-Const.ty.0) c.in_ok-name-in-Const.ensures.cases c.in-Const.ensures.is
    c.in_ok-made-in-Const.made c.in_ok-made-in-Const.ensures.made in
    OnOk-map2 c.keep-in-Const.result (λ made noted from root w.
    same_substituting from c.args.putting.now.types.now c.args.putting.now.terms.now c.constant_image.new.self root walk.tasks keep.tasks
    (c.in_ok-made-in-Const.made ∷ walk.made) keep.made keep.images keep.images c.keep-in-Const.ensures.tasks made refl
    (kept_image from c.args.self.now root c.args.putting.now.types.now c.args.putting.now.terms.now c.args.id walk.tasks walk.made walk.images w
    c.constant_image.new.self c.constant_image.ensures.keeps keep.images c.in_ok-made-in-Const.made noted made_is))
    c.keep-in-Const.ensures.made c.keep-in-Const.ensures.noted

pub returns-in-App-clause-walk : goal.returns-in-App-clause-walk
returns-in-App-clause-walk c =
    let walk = c.args.walk.now in
    let out = c.set_out.new.self in
    OnOk-map c.set_out.result (λ tasks from root w.
    same_substituting from c.args.putting.now.types.now c.args.putting.now.terms.now c.args.self.now root
    (Visit c.in-App.f ∷ Visit c.in-App.x ∷ Apply c.args.id ∷ walk.tasks) out.tasks walk.made out.made walk.images out.images tasks c.set_out.ensures.made
    c.set_out.ensures.images
    (set_out_application from c.args.self.now root c.args.putting.now.types.now c.args.putting.now.terms.now c.args.id walk.tasks walk.made walk.images w
    c.in-App.f c.in-App.x c.in-App.ensures.is c.in-App.ensures.lower.0 c.in-App.ensures.lower.1))
    c.set_out.ensures.tasks

pub returns-in-App-clause-less : goal.returns-in-App-clause-less
returns-in-App-clause-less c =
    let walk = c.args.walk.now in
    OnOk-map c.set_out.result (λ tasks from root w.
    let e = ap (steps from) tasks in
    let l = application_less from c.args.self.now root c.args.putting.now.types.now c.args.putting.now.terms.now c.args.id walk.tasks walk.made walk.images w
    c.in-App.f c.in-App.x c.in-App.ensures.is c.in-App.ensures.lower.0 c.in-App.ensures.lower.1 in
    omega (arith, e, l))
    c.set_out.ensures.tasks

pub returns-in_ok-binder-in-Lam-clause-walk : goal.returns-in_ok-binder-in-Lam-clause-walk
returns-in_ok-binder-in-Lam-clause-walk c =
    let walk = c.args.walk.now in
    let out = c.set_out_to.new.self in
    OnOk-map c.set_out_to.result (λ tasks from root w.
    same_substituting from c.args.putting.now.types.now c.args.putting.now.terms.now c.type_image.new.self root
    (Visit c.in-Lam.body ∷ Abstract c.args.id c.in_ok-binder-in-Lam.binder ∷ walk.tasks) out.tasks walk.made out.made walk.images out.images tasks
    c.set_out_to.ensures.made c.set_out_to.ensures.images
    (set_out_abstraction from c.args.self.now root c.args.putting.now.types.now c.args.putting.now.terms.now c.args.id walk.tasks walk.made walk.images w
    c.type_image.new.self c.type_image.ensures.keeps c.in-Lam.ty c.in_ok-binder-in-Lam.binder c.in-Lam.body c.in-Lam.ensures.is c.in-Lam.ensures.lower.1
    c.in_ok-binder-in-Lam.ensures.known c.in_ok-binder-in-Lam.ensures.made))
    c.set_out_to.ensures.tasks

pub returns-in_ok-binder-in-Lam-clause-less : goal.returns-in_ok-binder-in-Lam-clause-less
returns-in_ok-binder-in-Lam-clause-less c =
    let walk = c.args.walk.now in
    OnOk-map c.set_out_to.result (λ tasks from root w.
    let e = ap (steps from) tasks in
    let l = abstraction_less from c.args.self.now root c.args.putting.now.types.now c.args.putting.now.terms.now c.args.id walk.tasks walk.made walk.images w
    c.type_image.new.self c.type_image.ensures.keeps c.in-Lam.ty c.in_ok-binder-in-Lam.binder c.in-Lam.body c.in-Lam.ensures.is c.in-Lam.ensures.lower.1 in
    omega (arith, e, l))
    c.set_out_to.ensures.tasks
