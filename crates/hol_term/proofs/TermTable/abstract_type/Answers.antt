use Rattle.std.proofs.Common.{ap, refl, sym, ◌∙◌, ◌∷◌, arith}
use Rattle.hol_term.specs.declared.seats.Step.TheVariants.{Abstract}
use Rattle.hol_term.specs.Inferring.{count}
use Rattle.hol_term.proofs.Settled.{OnOk-always}
use Rattle.hol_term.proofs.WalkTurns.{OnOk-map2}
use Rattle.hol_term.proofs.InferringTurns.{same_inferring, abstract_known, found_abstraction}
use Rattle.hol_term.proofs.TermTable.abstract_type.Goals as goal

pub abstracted-requires-clause-ty : goal.abstracted-requires-clause-ty
abstracted-requires-clause-ty c =
    let walk = c.args.typings.now in
    let w = same_inferring _ _ walk.scopes walk.scopes walk.found walk.found (Abstract c.args.seat c.args.ty ∷ walk.steps) _ walk.types _ refl refl refl
    (sym c.take-codomain.ensures.types) c.requires.1 in
    (abstract_known _ _ _ _ _ _ _ c.take-codomain.result _ w).0

pub abstracted-requires-clause-body : goal.abstracted-requires-clause-body
abstracted-requires-clause-body c =
    let walk = c.args.typings.now in
    let w = same_inferring _ _ walk.scopes walk.scopes walk.found walk.found (Abstract c.args.seat c.args.ty ∷ walk.steps) _ walk.types _ refl refl refl
    (sym c.take-codomain.ensures.types) c.requires.1 in
    (abstract_known _ _ _ _ _ _ _ c.take-codomain.result _ w).1

pub returns-clause-walk : goal.returns-clause-walk
returns-clause-walk c =
    let walk = c.args.typings.now in
    let taken = c.take-codomain.new.self in
    let keep = c.keep.new.self in
    OnOk-map2 c.keep.result (λ made noted root w.
    let v = same_inferring root c.args.self.now walk.scopes taken.scopes walk.found taken.found (Abstract c.args.seat c.args.ty ∷ walk.steps)
    (Abstract c.args.seat c.args.ty ∷ taken.steps) walk.types (c.take-codomain.result ∷ taken.types)
    c.take-codomain.ensures.scopes c.take-codomain.ensures.found (ap (λ l. Abstract c.args.seat c.args.ty ∷ l) c.take-codomain.ensures.steps)
    (sym c.take-codomain.ensures.types) w in
    same_inferring root c.abstracted.new.self taken.scopes keep.scopes keep.found keep.found taken.steps keep.steps (c.in_ok-made.made ∷ taken.types) keep.types
    c.keep.ensures.scopes refl c.keep.ensures.steps made
    (found_abstraction root c.args.self.now taken.scopes taken.found c.args.seat c.args.ty taken.steps c.abstracted.new.self c.abstracted.ensures.keeps
    keep.found c.in_ok-made.made noted c.take-codomain.result taken.types v c.in_ok-made.ensures.typed))
    c.keep.ensures.types c.keep.ensures.noted

pub returns-clause-less : goal.returns-clause-less
returns-clause-less c =
    let walk = c.args.typings.now in
    let e = ap (count c.abstracted.new.self.terms) (c.keep.ensures.steps ∙ c.take-codomain.ensures.steps) in
    let t = ap (λ ts. count ts walk.steps) c.abstracted.ensures.terms in
    OnOk-always c.keep.result (omega (arith, e, t))
