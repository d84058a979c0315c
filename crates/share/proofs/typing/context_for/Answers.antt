use Rattle.std.proofs.Common.{refl}
use Rattle.std.proofs.lemmas.Result.{IfOk-weaker}
use Rattle.share.proofs.TurnLaws.{same-closed}
use Rattle.share.proofs.typing.context_for.Goals as goal

pub returns-then-is_closed_under-clause-same : goal.returns-then-is_closed_under-clause-same
returns-then-is_closed_under-clause-same c =
    IfOk-weaker c.node.result _ _ (λ r e m h. same-closed m _ _ _ r.0 c.is_closed_under.result c.is_closed_under.ensures.closed c.if-is_closed_under.true e h)
    c.node.ensures.made

pub returns-else-is_closed_under-clause-same : goal.returns-else-is_closed_under-clause-same
returns-else-is_closed_under-clause-same c = λ m h. (h, refl)
