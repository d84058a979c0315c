use Rattle.translate_term.proofs.EndsLaws.{OnOk-map}
use Rattle.translate_term.proofs.closed.put_constant.Goals as goal

pub returns-clause-made : goal.returns-clause-made
returns-clause-made c = OnOk-map c.push.result
    (λ e symbols scope t q. record { id = c.in_ok-tree.tree; is = e; holds = c.in_ok-tree.ensures.made symbols scope t q }) c.push.ensures.pushed
