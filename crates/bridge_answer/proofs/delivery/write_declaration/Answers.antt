use Rattle.std.proofs.Common.{◌∙◌, OnOk, OnErr, subst}
use Rattle.bridge_base.specs.Outside.{Gains, GainsFront}
use Rattle.bridge_answer.proofs.Notes.{declaration_pieces}
use Rattle.bridge_answer.proofs.delivery.write_declaration.Goals as goal

pub returns-clause-ok : goal.returns-clause-ok
returns-clause-ok g c =
    subst (λ text. OnOk c.write_parts.result (Gains (g.N.Sink.got c.args.note.now) text (g.N.Sink.got c.write_parts.new.sink)))
    (declaration_pieces _ _ _ (c.as_bytes.ensures.value ∙ c.format.ensures.text))
    c.write_parts.ensures.ok

pub returns-clause-err : goal.returns-clause-err
returns-clause-err g c =
    subst (λ text. OnErr c.write_parts.result (GainsFront (g.N.Sink.got c.args.note.now) text (g.N.Sink.got c.write_parts.new.sink)))
    (declaration_pieces _ _ _ (c.as_bytes.ensures.value ∙ c.format.ensures.text))
    c.write_parts.ensures.err
