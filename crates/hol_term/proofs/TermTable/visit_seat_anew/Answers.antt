use Rattle.std.proofs.Common.{ap, refl, ◌∷◌, arith}
use Rattle.hol_term.specs.declared.seats.Step.TheVariants.{Visit, Apply, Abstract}
use Rattle.hol_term.specs.Inferring.{count}
use Rattle.hol_term.proofs.Settled.{OnOk-always}
use Rattle.hol_term.proofs.WalkTurns.{OnOk-map, OnOk-map2}
use Rattle.hol_term.proofs.InferringTurns.{same_inferring, visit_known, visit_less, found_leaf, found_bound, infer_application, application_count, infer_abstraction, abstraction_count}
use Rattle.hol_term.proofs.TermTable.visit_seat_anew.Goals as goal

pub parts-requires : goal.parts-requires
parts-requires c = (visit_known _ _ _ _ _ _ _ c.requires.1).0

pub at-ty-requires : goal.at-ty-requires
at-ty-requires c = (visit_known _ _ _ _ _ _ _ c.requires.1).1

pub enter-requires : goal.enter-requires
enter-requires c = (visit_known _ _ _ _ _ _ _ c.requires.1).1

pub returns-in-Leaf-clause-walk : goal.returns-in-Leaf-clause-walk
returns-in-Leaf-clause-walk c =
    let walk = c.args.typings.now in
    let keep = c.keep.new.self in
    OnOk-map2 c.keep.result (λ types noted root w.
    same_inferring root c.args.self.now walk.scopes keep.scopes keep.found keep.found walk.steps keep.steps (c.ty.result ∷ walk.types) keep.types
    c.keep.ensures.scopes refl c.keep.ensures.steps types
    (found_leaf root c.args.self.now walk.scopes walk.found c.args.seat walk.steps walk.types w keep.found c.ty.result noted c.in-Leaf.ensures.is
    c.ty.ensures.typed))
    c.keep.ensures.types c.keep.ensures.noted

pub returns-in-Leaf-clause-less : goal.returns-in-Leaf-clause-less
returns-in-Leaf-clause-less c =
    let e = ap (count c.args.self.now.terms) c.keep.ensures.steps in
    let l = visit_less c.args.self.now c.args.seat c.args.typings.now.steps in
    OnOk-always c.keep.result (omega (arith, e, l))

pub returns-in-Bound-clause-walk : goal.returns-in-Bound-clause-walk
returns-in-Bound-clause-walk c =
    let walk = c.args.typings.now in
    let keep = c.keep-in-Bound.new.self in
    OnOk-map2 c.keep-in-Bound.result (λ types noted root w.
    same_inferring root c.args.self.now walk.scopes keep.scopes keep.found keep.found walk.steps keep.steps (c.at-ty.result ∷ walk.types) keep.types
    c.keep-in-Bound.ensures.scopes refl c.keep-in-Bound.ensures.steps types
    (found_bound root c.args.self.now walk.scopes walk.found c.args.seat walk.steps walk.types w keep.found c.at-ty.result noted c.in-Bound.n
    c.in-Bound.ensures.is c.at-ty.ensures))
    c.keep-in-Bound.ensures.types c.keep-in-Bound.ensures.noted

pub returns-in-Bound-clause-less : goal.returns-in-Bound-clause-less
returns-in-Bound-clause-less c =
    let e = ap (count c.args.self.now.terms) c.keep-in-Bound.ensures.steps in
    let l = visit_less c.args.self.now c.args.seat c.args.typings.now.steps in
    OnOk-always c.keep-in-Bound.result (omega (arith, e, l))

pub returns-in-App-clause-walk : goal.returns-in-App-clause-walk
returns-in-App-clause-walk c =
    let walk = c.args.typings.now in
    let out = c.set_out.new.self in
    OnOk-map c.set_out.result (λ steps root w.
    same_inferring root c.args.self.now walk.scopes out.scopes walk.found out.found
    (Visit (record { id = c.in-App.f; scope = c.args.seat.scope }) ∷ Visit (record { id = c.in-App.x; scope = c.args.seat.scope }) ∷ Apply c.args.seat ∷
    walk.steps) out.steps walk.types out.types c.set_out.ensures.scopes c.set_out.ensures.found steps c.set_out.ensures.types
    (infer_application root c.args.self.now walk.scopes walk.found c.args.seat walk.steps walk.types w c.in-App.f c.in-App.x c.in-App.ensures.is
    c.in-App.ensures.lower.0 c.in-App.ensures.lower.1))
    c.set_out.ensures.steps

pub returns-in-App-clause-less : goal.returns-in-App-clause-less
returns-in-App-clause-less c =
    OnOk-map c.set_out.result (λ steps.
    let e = ap (count c.args.self.now.terms) steps in
    let l = application_count c.args.self.now c.args.seat c.args.typings.now.steps c.in-App.f c.in-App.x c.in-App.ensures.is in
    omega (arith, e, l))
    c.set_out.ensures.steps

pub returns-in_ok-scope-in-Lam-clause-walk : goal.returns-in_ok-scope-in-Lam-clause-walk
returns-in_ok-scope-in-Lam-clause-walk c =
    let walk = c.args.typings.now in
    let out = c.set_out_under.new.self in
    let scope = c.in_ok-scope-in-Lam.scope in
    OnOk-map c.set_out_under.result (λ steps root w.
    same_inferring root c.args.self.now c.enter.new.self out.scopes walk.found out.found
    (Visit (record { id = c.in-Lam.body; scope = scope }) ∷ Abstract c.args.seat c.in-Lam.ty ∷ walk.steps) out.steps walk.types out.types
    c.set_out_under.ensures.scopes c.set_out_under.ensures.found steps c.set_out_under.ensures.types
    (infer_abstraction root c.args.self.now walk.scopes walk.found c.args.seat walk.steps walk.types w c.enter.new.self c.in-Lam.ty
    c.in_ok-scope-in-Lam.ensures.keeps c.in_ok-scope-in-Lam.ensures.adds scope c.in_ok-scope-in-Lam.ensures.entered
    c.in-Lam.body c.in-Lam.ensures.is c.in-Lam.ensures.lower.1 c.in-Lam.ensures.lower.0))
    c.set_out_under.ensures.steps

pub returns-in_ok-scope-in-Lam-clause-less : goal.returns-in_ok-scope-in-Lam-clause-less
returns-in_ok-scope-in-Lam-clause-less c =
    OnOk-map c.set_out_under.result (λ steps.
    let e = ap (count c.args.self.now.terms) steps in
    let l = abstraction_count c.args.self.now c.args.seat c.args.typings.now.steps c.in-Lam.ty c.in_ok-scope-in-Lam.scope c.in-Lam.body c.in-Lam.ensures.is in
    omega (arith, e, l))
    c.set_out_under.ensures.steps
