use Rattle.std.proofs.Common.{ap, refl, subst, ◌∷◌, arith}
use Rattle.hol_term.specs.declared.walk.Task.TheVariants.{Visit, Apply, Abstract, Note}
use Rattle.hol_term.specs.Walks.{IsReplaced, work}
use Rattle.hol_term.proofs.Settled.{OnOk-always}
use Rattle.hol_term.proofs.WalkTurns.{OnOk-map, OnOk-map2, same_walk, visit_arguments, visit_closing, visit_less, walk_leaf, walk_bound, walk_argument, argument_work, walk_application, application_work, walk_abstraction, abstraction_work}
use Rattle.hol_term.proofs.TermTable.visit_anew.Goals as goal

pub remade_leaf-requires-clause-args : goal.remade_leaf-requires-clause-args
remade_leaf-requires-clause-args c = visit_arguments _ _ _ _ _ _ _ _ c.requires.2

pub remade_leaf-requires-clause-closing : goal.remade_leaf-requires-clause-closing
remade_leaf-requires-clause-closing c = visit_closing _ _ _ _ _ _ _ _ c.requires.2

pub returns-in_ok-id-in-Leaf-clause-walk : goal.returns-in_ok-id-in-Leaf-clause-walk
returns-in_ok-id-in-Leaf-clause-walk c =
    let walk = c.args.walk.now in
    OnOk-map2 c.keep.result (λ made noted from root w.
    same_walk from c.remade_leaf.new.self root c.args.args.now walk.tasks c.keep.new.self.tasks (c.in_ok-id-in-Leaf.id ∷ walk.made) c.keep.new.self.made
    c.keep.new.self.memo c.keep.new.self.memo c.keep.ensures.tasks made refl
    (walk_leaf from c.args.self.now root c.args.args.now c.args.place walk.tasks walk.made walk.memo w c.remade_leaf.new.self c.remade_leaf.ensures.keeps
    c.keep.new.self.memo c.in_ok-id-in-Leaf.id noted c.in_ok-id-in-Leaf.ensures.made))
    c.keep.ensures.made c.keep.ensures.noted

pub returns-in_ok-id-in-Renamed-clause-walk : goal.returns-in_ok-id-in-Renamed-clause-walk
returns-in_ok-id-in-Renamed-clause-walk c =
    let walk = c.args.walk.now in
    let keep = c.keep-in-Renamed.new.self in
    let is = subst (IsReplaced c.args.args.now c.args.place c.in-Bound.n) c.in-Renamed.is c.in_ok-n-in-Bound.ensures in
    OnOk-map2 c.keep-in-Renamed.result (λ made noted from root w.
    same_walk from c.add_bound.new.self root c.args.args.now walk.tasks keep.tasks (c.in_ok-id-in-Renamed.id ∷ walk.made) keep.made keep.memo keep.memo
    c.keep-in-Renamed.ensures.tasks made refl
    (walk_bound from c.args.self.now root c.args.args.now c.args.place walk.tasks walk.made walk.memo w c.add_bound.new.self c.add_bound.ensures.keeps keep.memo
    c.in_ok-id-in-Renamed.id noted c.in-Bound.n c.in-Renamed.n c.in-Bound.ensures.is is c.in_ok-id-in-Renamed.ensures.made))
    c.keep-in-Renamed.ensures.made c.keep-in-Renamed.ensures.noted

pub returns-in_ok-id-in-Renamed-clause-less : goal.returns-in_ok-id-in-Renamed-clause-less
returns-in_ok-id-in-Renamed-clause-less c =
    let walk = c.args.walk.now in
    OnOk-always c.keep-in-Renamed.result (λ from root w.
    let e = ap (work from c.args.args.now) c.keep-in-Renamed.ensures.tasks in
    let l = visit_less from c.args.self.now root c.args.args.now c.args.place walk.tasks walk.made walk.memo in
    omega (arith, e, l))

pub returns-in-Argument-clause-walk : goal.returns-in-Argument-clause-walk
returns-in-Argument-clause-walk c =
    let walk = c.args.walk.now in
    let r = subst (IsReplaced c.args.args.now c.args.place c.in-Bound.n) c.in-Argument.is c.in_ok-n-in-Bound.ensures in
    OnOk-map c.set_out_to.result (λ tasks from root w.
    same_walk from c.args.self.now root c.args.args.now (Visit c.lifted.result ∷ Note c.args.place ∷ walk.tasks) c.set_out_to.new.self.tasks walk.made
    c.set_out_to.new.self.made walk.memo c.set_out_to.new.self.memo tasks c.set_out_to.ensures.made c.set_out_to.ensures.memo
    (walk_argument from c.args.self.now root c.args.args.now c.args.place walk.tasks walk.made walk.memo w c.lifted.result c.in-Bound.n c.in-Argument.id
    c.lifted.ensures r c.in-Bound.ensures.is c.in-Bound.ensures.small))
    c.set_out_to.ensures.tasks

pub returns-in-Argument-clause-less : goal.returns-in-Argument-clause-less
returns-in-Argument-clause-less c =
    let walk = c.args.walk.now in
    let r = subst (IsReplaced c.args.args.now c.args.place c.in-Bound.n) c.in-Argument.is c.in_ok-n-in-Bound.ensures in
    OnOk-map c.set_out_to.result (λ tasks from root w.
    let e = ap (work from c.args.args.now) tasks in
    let l = argument_work from c.args.self.now root c.args.args.now c.args.place walk.tasks walk.made walk.memo w c.lifted.result c.in-Bound.n c.in-Argument.id
    c.lifted.ensures r c.in-Bound.ensures.is in
    omega (arith, e, l))
    c.set_out_to.ensures.tasks

pub returns-in-App-clause-walk : goal.returns-in-App-clause-walk
returns-in-App-clause-walk c =
    let walk = c.args.walk.now in
    let out = c.set_out.new.self in
    OnOk-map c.set_out.result (λ tasks from root w.
    same_walk from c.args.self.now root c.args.args.now (Visit c.part.result ∷ Visit c.part-in-App.result ∷ Apply c.args.place ∷ walk.tasks) out.tasks walk.made
    out.made walk.memo out.memo tasks c.set_out.ensures.made c.set_out.ensures.memo
    (walk_application from c.args.self.now root c.args.args.now c.args.place walk.tasks walk.made walk.memo w c.part.result c.part-in-App.result c.in-App.f
    c.in-App.x c.part.ensures c.part-in-App.ensures c.in-App.ensures.is c.in-App.ensures.lower.0 c.in-App.ensures.lower.1))
    c.set_out.ensures.tasks

pub returns-in-App-clause-less : goal.returns-in-App-clause-less
returns-in-App-clause-less c =
    let walk = c.args.walk.now in
    OnOk-map c.set_out.result (λ tasks from root w.
    let e = ap (work from c.args.args.now) tasks in
    let l = application_work from c.args.self.now root c.args.args.now c.args.place walk.tasks walk.made walk.memo w c.part.result c.part-in-App.result
    c.in-App.f c.in-App.x c.part.ensures c.part-in-App.ensures c.in-App.ensures.is c.in-App.ensures.lower.0 c.in-App.ensures.lower.1 in
    omega (arith, e, l))
    c.set_out.ensures.tasks

pub returns-in-Lam-clause-walk : goal.returns-in-Lam-clause-walk
returns-in-Lam-clause-walk c =
    let walk = c.args.walk.now in
    let out = c.set_out_to-in-Lam.new.self in
    OnOk-map c.set_out_to-in-Lam.result (λ tasks from root w.
    same_walk from c.args.self.now root c.args.args.now (Visit c.part-in-Lam.result ∷ Abstract c.args.place c.in-Lam.ty ∷ walk.tasks) out.tasks walk.made
    out.made walk.memo out.memo tasks c.set_out_to-in-Lam.ensures.made c.set_out_to-in-Lam.ensures.memo
    (walk_abstraction from c.args.self.now root c.args.args.now c.args.place walk.tasks walk.made walk.memo w c.part-in-Lam.result c.in-Lam.ty c.in-Lam.body
    c.part-in-Lam.ensures c.in-Lam.ensures.is c.in-Lam.ensures.lower.1 c.in-Lam.ensures.lower.0))
    c.set_out_to-in-Lam.ensures.tasks

pub returns-in-Lam-clause-less : goal.returns-in-Lam-clause-less
returns-in-Lam-clause-less c =
    let walk = c.args.walk.now in
    OnOk-map c.set_out_to-in-Lam.result (λ tasks from root w.
    let e = ap (work from c.args.args.now) tasks in
    let l = abstraction_work from c.args.self.now root c.args.args.now c.args.place walk.tasks walk.made walk.memo w c.part-in-Lam.result c.in-Lam.ty
    c.in-Lam.body c.part-in-Lam.ensures c.in-Lam.ensures.is c.in-Lam.ensures.lower.1 c.in-Lam.ensures.lower.0 in
    omega (arith, e, l))
    c.set_out_to-in-Lam.ensures.tasks
