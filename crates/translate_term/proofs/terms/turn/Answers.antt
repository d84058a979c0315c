use Rattle.translate_term.proofs.EndsLaws.{OnOk-map}
use Rattle.translate_term.proofs.terms.turn.Goals as goal

pub visit-requires : goal.visit-requires
visit-requires c = (c.requires.0, c.requires.1, rw c.in-Visit.is at c.requires.2)

pub returns-in-Visit-clause-walk : goal.returns-in-Visit-clause-walk
returns-in-Visit-clause-walk c = OnOk-map c.visit.result (λ on given root w. on given root (rw c.in-Visit.is at w)) c.visit.ensures.walk

pub returns-in-Visit-clause-less : goal.returns-in-Visit-clause-less
returns-in-Visit-clause-less c = rw c.in-Visit.is c.visit.ensures.less

pub join-requires : goal.join-requires
join-requires c = (c.requires.0, c.requires.1, rw c.in-Join.is at c.requires.2)

pub returns-in-Join-clause-walk : goal.returns-in-Join-clause-walk
returns-in-Join-clause-walk c = OnOk-map c.join.result (λ on given root w. on given root (rw c.in-Join.is at w)) c.join.ensures.walk

pub returns-in-Join-clause-less : goal.returns-in-Join-clause-less
returns-in-Join-clause-less c = rw c.in-Join.is c.join.ensures.less
