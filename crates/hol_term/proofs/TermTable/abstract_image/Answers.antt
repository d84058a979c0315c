use Rattle.std.proofs.Common.{ap, refl, sym, ◌∙◌, ◌∷◌, arith}
use Rattle.hol_term.specs.declared.substitution.Turn.TheVariants.{Abstract}
use Rattle.hol_term.specs.Substituting.{steps}
use Rattle.hol_term.proofs.Settled.{OnOk-always}
use Rattle.hol_term.proofs.WalkTurns.{OnOk-map2}
use Rattle.hol_term.proofs.SubstitutionTurns.{same_substituting, abstract_known, abstracted_image}
use Rattle.hol_term.proofs.TermTable.abstract_image.Goals as goal

pub add-requires : goal.add-requires
add-requires c =
    let walk = c.args.walk.now in
    let w = same_substituting _ _ _ _ _ (Abstract c.args.id c.args.ty ∷ walk.tasks) _ walk.made _ walk.images _ refl (sym c.take-body.ensures.made) refl
    c.requires.2 in
    abstract_known _ _ _ _ _ _ _ _ _ c.take-body.result _ w

pub returns-clause-walk : goal.returns-clause-walk
returns-clause-walk c =
    let walk = c.args.walk.now in
    let taken = c.take-body.new.self in
    OnOk-map2 c.keep.result (λ made noted from root w.
    let v = same_substituting from c.args.putting.now.types.now c.args.putting.now.terms.now c.args.self.now root (Abstract c.args.id c.args.ty ∷ walk.tasks)
    (Abstract c.args.id c.args.ty ∷ taken.tasks) walk.made (c.take-body.result ∷ taken.made) walk.images taken.images
    (ap (λ l. Abstract c.args.id c.args.ty ∷ l) c.take-body.ensures.tasks) (sym c.take-body.ensures.made) c.take-body.ensures.images w in
    same_substituting from c.args.putting.now.types.now c.args.putting.now.terms.now c.add.new.self root taken.tasks c.keep.new.self.tasks
    (c.in_ok-made.made ∷ taken.made) c.keep.new.self.made c.keep.new.self.images c.keep.new.self.images c.keep.ensures.tasks made refl
    (abstracted_image from c.args.self.now root c.args.putting.now.types.now c.args.putting.now.terms.now c.args.id c.args.ty taken.tasks taken.images
    c.add.new.self c.add.ensures.keeps c.keep.new.self.images c.in_ok-made.made noted c.take-body.result taken.made v c.in_ok-made.ensures.made))
    c.keep.ensures.made c.keep.ensures.noted

pub returns-clause-less : goal.returns-clause-less
returns-clause-less c = OnOk-always c.keep.result
    (λ from root w. let e = ap (steps from) (c.keep.ensures.tasks ∙ c.take-body.ensures.tasks) in omega (arith, e))
