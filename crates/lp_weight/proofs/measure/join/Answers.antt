use Rattle.std.proofs.Common.{◌≡◌, ◌+◌, arith}
use Rattle.std.proofs.lemmas.Result.{on_ok_weaker}
use Rattle.lp_weight.specs.Saturation.{saturated}
use Rattle.lp_weight.proofs.Turns.{join_walk}
use Rattle.lp_weight.proofs.measure.join.Goals as goal

pub returns-clause-walk : goal.returns-clause-walk
returns-clause-walk c =
    let sum : c.saturating_add-amount.result ≡ saturated (c.two-first.result.0 + c.two-first.result.1) = omega arith in
    rw (c.give.ensures.tasks, c.give.ensures.memo)
    (on_ok_weaker c.give.result (λ m. rw m (join_walk c.args.place _ _ _ _ _ _ _ _ c.two-first.ensures sum c.in_ok-note.ensures.noted)) c.give.ensures.amounts)

pub returns-clause-noted : goal.returns-clause-noted
returns-clause-noted c = rw c.give.ensures.memo
    (on_ok_weaker c.give.result (λ m large. (c.saturating_add-amount.result, c.in_ok-note.ensures.new large)) c.give.ensures.amounts)
