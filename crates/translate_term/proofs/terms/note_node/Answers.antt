use Rattle.translate_term.proofs.EndsLaws.{OnOk-map3}
use Rattle.translate_term.specs.GrowLaws.{Grows-table}
use Rattle.translate_term.proofs.terms.note_node.Goals as goal

pub returns-clause-made : goal.returns-clause-made
returns-clause-made c =
    OnOk-map3 c.note.result (λ only new kept. record { mark = c.in_ok-tree.tree; only = only; noted = new; kept = kept; holds = c.in_ok-tree.ensures.made })
    c.note.ensures.noted c.note.ensures.new c.note.ensures.kept

pub returns-clause-grows : goal.returns-clause-grows
returns-clause-grows c = Grows-table c.args.target.now _ c.in_ok-tree.ensures.keeps
