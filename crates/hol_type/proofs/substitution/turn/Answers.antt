use Rattle.hol_type.proofs.substitution.turn.Goals as goal

pub returns-in-Visit-clause-walk : goal.returns-in-Visit-clause-walk
returns-in-Visit-clause-walk c = rw c.in-Visit.is c.visit.ensures.walk

pub returns-in-Join-clause-walk : goal.returns-in-Join-clause-walk
returns-in-Join-clause-walk c = rw c.in-Join.is c.join.ensures.walk
