use Rattle.translate_term.proofs.EndsLaws.{OnOk-map}
use Rattle.translate_term.specs.GrowLaws.{Grows-table}
use Rattle.translate_term.proofs.closed.put_node.Goals as goal

pub returns-clause-made : goal.returns-clause-made
returns-clause-made c = OnOk-map c.push.result (λ e. record { id = c.in_ok-tree.tree; is = e; holds = c.in_ok-tree.ensures.made }) c.push.ensures.pushed

pub returns-clause-grows : goal.returns-clause-grows
returns-clause-grows c = Grows-table c.args.target.now _ c.in_ok-tree.ensures.keeps
