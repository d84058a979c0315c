use Rattle.std.proofs.Common.{ap, refl, sym, ◌∷◌}
use Rattle.hol_term.specs.declared.walk.Task.TheVariants.{Note}
use Rattle.hol_term.proofs.WalkTurns.{OnOk-map2, same_walk, walk_note}
use Rattle.hol_term.proofs.TermTable.note.Goals as goal

pub returns-clause-walk : goal.returns-clause-walk
returns-clause-walk c =
    let walk = c.args.walk.now in
    let taken = c.take-id.new.self in
    OnOk-map2 c.keep.result (λ made noted from root w.
    let v = same_walk from c.args.self.now root c.args.args.now (Note c.args.place ∷ walk.tasks) (Note c.args.place ∷ taken.tasks) walk.made
    (c.take-id.result ∷ taken.made) walk.memo taken.memo
    (ap (λ l. Note c.args.place ∷ l) c.take-id.ensures.tasks) (sym c.take-id.ensures.made) c.take-id.ensures.memo w in
    same_walk from c.args.self.now root c.args.args.now taken.tasks c.keep.new.self.tasks (c.take-id.result ∷ taken.made) c.keep.new.self.made
    c.keep.new.self.memo c.keep.new.self.memo c.keep.ensures.tasks made refl
    (walk_note from c.args.self.now root c.args.args.now c.args.place taken.tasks taken.memo c.take-id.result taken.made c.keep.new.self.memo noted v))
    c.keep.ensures.made c.keep.ensures.noted
