use Rattle.translate_term.proofs.EndsLaws.{OnOk-map}
use Rattle.translate_term.proofs.types.turn.Goals as goal

pub returns-in-Join-clause-walk : goal.returns-in-Join-clause-walk
returns-in-Join-clause-walk c = OnOk-map c.join.result (λ on given root w. on given root _ (rw c.in-Join.is at w)) c.join.ensures.walk
