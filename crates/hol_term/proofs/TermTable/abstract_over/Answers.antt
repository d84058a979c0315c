use Rattle.std.proofs.Common.{ap, refl, sym, ◌∙◌, ◌∷◌, arith}
use Rattle.hol_term.specs.declared.walk.Task.TheVariants.{Abstract}
use Rattle.hol_term.specs.Walks.{work}
use Rattle.hol_term.proofs.Settled.{OnOk-always}
use Rattle.hol_term.proofs.WalkTurns.{OnOk-map2, same_walk, abstract_known, walk_abstract}
use Rattle.hol_term.proofs.TermTable.abstract_over.Goals as goal

pub add-requires : goal.add-requires
add-requires c =
    let walk = c.args.walk.now in
    let w = same_walk _ _ _ _ (Abstract c.args.place c.args.ty ∷ walk.tasks) _ walk.made _ walk.memo _ refl (sym c.take-body.ensures.made) refl c.requires.2 in
    abstract_known _ _ _ _ _ _ _ _ c.take-body.result _ w

pub returns-clause-walk : goal.returns-clause-walk
returns-clause-walk c =
    let walk = c.args.walk.now in
    let taken = c.take-body.new.self in
    OnOk-map2 c.keep.result (λ made noted from root w.
    let v = same_walk from c.args.self.now root c.args.args.now (Abstract c.args.place c.args.ty ∷ walk.tasks) (Abstract c.args.place c.args.ty ∷ taken.tasks)
    walk.made (c.take-body.result ∷ taken.made) walk.memo taken.memo
    (ap (λ l. Abstract c.args.place c.args.ty ∷ l) c.take-body.ensures.tasks) (sym c.take-body.ensures.made) c.take-body.ensures.memo w in
    same_walk from c.add.new.self root c.args.args.now taken.tasks c.keep.new.self.tasks (c.in_ok-id.id ∷ taken.made) c.keep.new.self.made c.keep.new.self.memo
    c.keep.new.self.memo c.keep.ensures.tasks made refl
    (walk_abstract from c.args.self.now root c.args.args.now c.args.place c.args.ty taken.tasks taken.memo c.add.new.self c.add.ensures.keeps
    c.keep.new.self.memo c.in_ok-id.id noted c.take-body.result taken.made v c.in_ok-id.ensures.made))
    c.keep.ensures.made c.keep.ensures.noted

pub returns-clause-less : goal.returns-clause-less
returns-clause-less c = OnOk-always c.keep.result
    (λ from root w. let e = ap (work from c.args.args.now) (c.keep.ensures.tasks ∙ c.take-body.ensures.tasks) in omega (arith, e))
