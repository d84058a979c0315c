use Rattle.std.proofs.Common.{ap, refl, sym, ◌∙◌, ◌∷◌}
use Rattle.hol_term.specs.declared.substitution.Turn.TheVariants.{Apply}
use Rattle.hol_term.proofs.WalkTurns.{OnOk-map2}
use Rattle.hol_term.proofs.SubstitutionTurns.{same_substituting, applied_image}
use Rattle.hol_term.proofs.TermTable.apply_images.Goals as goal

pub returns-clause-walk : goal.returns-clause-walk
returns-clause-walk c =
    let walk = c.args.walk.now in
    let first = c.take-argument.new.self in
    let second = c.take-function.new.self in
    OnOk-map2 c.keep.result (λ made noted from root w.
    let v = same_substituting from c.args.putting.now.types.now c.args.putting.now.terms.now c.args.self.now root (Apply c.args.id ∷ walk.tasks)
    (Apply c.args.id ∷ second.tasks) walk.made (c.take-argument.result ∷ c.take-function.result ∷ second.made) walk.images second.images
    (ap (λ l. Apply c.args.id ∷ l) (c.take-function.ensures.tasks ∙ c.take-argument.ensures.tasks))
    (sym (c.take-argument.ensures.made ∙ ap (λ l. c.take-argument.result ∷ l) c.take-function.ensures.made))
    (c.take-function.ensures.images ∙ c.take-argument.ensures.images) w in
    same_substituting from c.args.putting.now.types.now c.args.putting.now.terms.now c.add.new.self root second.tasks c.keep.new.self.tasks
    (c.in_ok-made.made ∷ second.made) c.keep.new.self.made c.keep.new.self.images c.keep.new.self.images c.keep.ensures.tasks made refl
    (applied_image from c.args.self.now root c.args.putting.now.types.now c.args.putting.now.terms.now c.args.id second.tasks second.images c.add.new.self
    c.add.ensures.keeps c.keep.new.self.images c.in_ok-made.made noted c.take-argument.result c.take-function.result second.made v
    c.in_ok-made.ensures.made))
    c.keep.ensures.made c.keep.ensures.noted
