use Rattle.hol_type.proofs.WalkLaws.{OnOk-map3}
use Rattle.hol_type.proofs.SearchTurns.{search_join}
use Rattle.hol_type.proofs.variables.turn.Goals as goal

pub returns-in-Visit-clause-search : goal.returns-in-Visit-clause-search
returns-in-Visit-clause-search c = rw c.in-Visit.is c.visit.ensures.search

pub returns-in-Join-clause-search : goal.returns-in-Join-clause-search
returns-in-Join-clause-search c =
    rw c.in-Join.is (OnOk-map3 c.note.result
    (λ only new kept. search_join _ c.in-Join.id _ _ _ _ _ only new kept)
    c.note.ensures.noted c.note.ensures.new c.note.ensures.kept)
