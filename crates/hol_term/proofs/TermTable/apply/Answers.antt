use Rattle.std.proofs.Common.{ap, refl, sym, ◌∙◌, ◌∷◌}
use Rattle.hol_term.specs.declared.walk.Task.TheVariants.{Apply}
use Rattle.hol_term.proofs.WalkTurns.{OnOk-map2, same_walk, walk_apply}
use Rattle.hol_term.proofs.TermTable.apply.Goals as goal

pub returns-clause-walk : goal.returns-clause-walk
returns-clause-walk c =
    let walk = c.args.walk.now in
    let first = c.take-argument.new.self in
    let second = c.take-function.new.self in
    OnOk-map2 c.keep.result (λ made noted from root w.
    let v = same_walk from c.args.self.now root c.args.args.now (Apply c.args.place ∷ walk.tasks) (Apply c.args.place ∷ second.tasks) walk.made
    (c.take-argument.result ∷ c.take-function.result ∷ second.made) walk.memo second.memo
    (ap (λ l. Apply c.args.place ∷ l) (c.take-function.ensures.tasks ∙ c.take-argument.ensures.tasks))
    (sym (c.take-argument.ensures.made ∙ ap (λ l. c.take-argument.result ∷ l) c.take-function.ensures.made))
    (c.take-function.ensures.memo ∙ c.take-argument.ensures.memo) w in
    same_walk from c.add.new.self root c.args.args.now second.tasks c.keep.new.self.tasks (c.in_ok-id.id ∷ second.made) c.keep.new.self.made
    c.keep.new.self.memo c.keep.new.self.memo c.keep.ensures.tasks made refl
    (walk_apply from c.args.self.now root c.args.args.now c.args.place second.tasks second.memo c.add.new.self c.add.ensures.keeps c.keep.new.self.memo
    c.in_ok-id.id noted c.take-argument.result c.take-function.result second.made v c.in_ok-id.ensures.made))
    c.keep.ensures.made c.keep.ensures.noted
