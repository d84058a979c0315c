use Rattle.translate_term.proofs.EndsLaws.{OnOk-map3}
use Rattle.translate_term.specs.GrowLaws.{Grows-table}
use Rattle.translate_term.proofs.TermTurns.{leaf_noted}
use Rattle.translate_term.proofs.terms.note_lifted.Goals as goal

pub returns-clause-made : goal.returns-clause-made
returns-clause-made c =
    OnOk-map3 c.note.result (λ only new kept. leaf_noted c.args.place _ _ _ _ c.in_ok-lifted.lifted c.in_ok-lifted.ensures.made only new kept)
    c.note.ensures.noted c.note.ensures.new c.note.ensures.kept

pub returns-clause-grows : goal.returns-clause-grows
returns-clause-grows c = Grows-table c.args.target.now _ c.in_ok-lifted.ensures.keeps
