use Rattle.std.proofs.lemmas.Result.{on_ok_weaker}
use Rattle.lp_weight.specs.Measures.{place_occurrences}
use Rattle.lp_weight.proofs.measure.turn.Goals as goal

pub returns-in-Join-clause-walk : goal.returns-in-Join-clause-walk
returns-in-Join-clause-walk c = rw c.in-Join.is
    (on_ok_weaker c.join.result (λ h. h (place_occurrences c.args.base.now) c.args.base.now.table) c.join.ensures.walk)
