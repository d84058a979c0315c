use Rattle.std.proofs.Common.{refl, ◌∷◌}
use Rattle.hol_term.proofs.Settled.{OnOk-always}
use Rattle.hol_term.proofs.WalkTurns.{OnOk-map}
use Rattle.hol_term.proofs.InferringTurns.{same_inferring, found_again, visit_known, visit_less}
use Rattle.hol_term.proofs.TermTable.visit_seat.Goals as goal

pub found_type-requires : goal.found_type-requires
found_type-requires c = (visit_known _ _ _ _ _ _ _ c.requires.1).0

pub returns-in-Some-clause-walk : goal.returns-in-Some-clause-walk
returns-in-Some-clause-walk c =
    let walk = c.args.typings.now in
    OnOk-map c.push.result (λ types root w.
    same_inferring root c.args.self.now walk.scopes walk.scopes walk.found walk.found walk.steps walk.steps (c.in-Some.ty ∷ walk.types) _ refl refl refl types
    (found_again root c.args.self.now walk.scopes walk.found c.args.seat walk.steps walk.types w c.in-Some.ty c.in-Some.ensures))
    c.push.ensures.pushed

pub returns-in-Some-clause-less : goal.returns-in-Some-clause-less
returns-in-Some-clause-less c = OnOk-always c.push.result (visit_less c.args.self.now c.args.seat c.args.typings.now.steps)
