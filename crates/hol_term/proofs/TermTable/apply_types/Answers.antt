use Rattle.std.proofs.Common.{ap, refl, sym, ◌∙◌, ◌∷◌, arith}
use Rattle.hol_term.specs.declared.seats.Step.TheVariants.{Apply}
use Rattle.hol_term.specs.Inferring.{count}
use Rattle.hol_term.proofs.Settled.{OnOk-always}
use Rattle.hol_term.proofs.WalkTurns.{OnOk-map2}
use Rattle.hol_term.proofs.InferringTurns.{same_inferring, apply_known, found_application}
use Rattle.hol_term.proofs.TermTable.apply_types.Goals as goal

pub applied-requires : goal.applied-requires
applied-requires c =
    let walk = c.args.typings.now in
    let second = c.take-function.new.self in
    let types = sym (c.take-argument.ensures.types ∙ ap (λ l. c.take-argument.result ∷ l) c.take-function.ensures.types) in
    let w = same_inferring _ _ walk.scopes walk.scopes walk.found walk.found (Apply c.args.seat ∷ walk.steps) _ walk.types _ refl refl refl types c.requires.1
    in
    apply_known _ _ _ _ _ _ c.take-argument.result c.take-function.result second.types w

pub returns-clause-walk : goal.returns-clause-walk
returns-clause-walk c =
    let walk = c.args.typings.now in
    let second = c.take-function.new.self in
    let keep = c.keep.new.self in
    let types = sym (c.take-argument.ensures.types ∙ ap (λ l. c.take-argument.result ∷ l) c.take-function.ensures.types) in
    OnOk-map2 c.keep.result (λ made noted root w.
    let v = same_inferring root c.args.self.now walk.scopes second.scopes walk.found second.found (Apply c.args.seat ∷ walk.steps)
    (Apply c.args.seat ∷ second.steps) walk.types (c.take-argument.result ∷ c.take-function.result ∷ second.types)
    (c.take-function.ensures.scopes ∙ c.take-argument.ensures.scopes) (c.take-function.ensures.found ∙ c.take-argument.ensures.found)
    (ap (λ l. Apply c.args.seat ∷ l) (c.take-function.ensures.steps ∙ c.take-argument.ensures.steps)) types w in
    same_inferring root c.args.self.now second.scopes keep.scopes keep.found keep.found second.steps keep.steps (c.applied.result ∷ second.types) keep.types
    c.keep.ensures.scopes refl c.keep.ensures.steps made
    (found_application root c.args.self.now second.scopes second.found c.args.seat second.steps keep.found c.applied.result noted c.take-argument.result
    c.take-function.result second.types v c.applied.ensures))
    c.keep.ensures.types c.keep.ensures.noted

pub returns-clause-less : goal.returns-clause-less
returns-clause-less c = let e = ap (count c.args.self.now.terms) (c.keep.ensures.steps ∙ c.take-function.ensures.steps ∙ c.take-argument.ensures.steps) in
    OnOk-always c.keep.result (omega (arith, e))
