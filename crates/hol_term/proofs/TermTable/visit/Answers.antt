use Rattle.std.proofs.Common.{refl, ◌∷◌}
use Rattle.hol_term.proofs.WalkTurns.{OnOk-map, same_walk, visit_arguments, visit_closing, walk_found, visit_less}
use Rattle.hol_term.proofs.TermTable.visit.Goals as goal

pub already-requires-clause-args : goal.already-requires-clause-args
already-requires-clause-args c = visit_arguments _ _ _ _ _ _ _ _ c.requires.2

pub already-requires-clause-closing : goal.already-requires-clause-closing
already-requires-clause-closing c = visit_closing _ _ _ _ _ _ _ _ c.requires.2

pub returns-in-Some-clause-walk : goal.returns-in-Some-clause-walk
returns-in-Some-clause-walk c =
    let walk = c.args.walk.now in
    OnOk-map c.push.result (λ made from root w.
    same_walk from c.args.self.now root c.args.args.now walk.tasks walk.tasks (c.in-Some.id ∷ walk.made) _ walk.memo walk.memo refl made refl
    (walk_found from c.args.self.now root c.args.args.now c.args.place walk.tasks walk.made walk.memo w c.in-Some.id c.in-Some.ensures))
    c.push.ensures.pushed

pub returns-in-Some-clause-less : goal.returns-in-Some-clause-less
returns-in-Some-clause-less c = OnOk-map c.push.result
    (λ made from root w. visit_less from c.args.self.now root c.args.args.now c.args.place c.args.walk.now.tasks c.args.walk.now.made c.args.walk.now.memo)
    c.push.ensures.pushed
