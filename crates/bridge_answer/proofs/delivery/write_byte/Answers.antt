use Rattle.std.proofs.Common.{◌∙◌, OnOk, OnErr, subst}
use Rattle.bridge_base.specs.Outside.{Gains, GainsFront}
use Rattle.bridge_answer.proofs.Notes.{byte_pieces}
use Rattle.bridge_answer.proofs.delivery.write_byte.Goals as goal

pub returns-clause-ok : goal.returns-clause-ok
returns-clause-ok g c =
    subst (λ text. OnOk c.write_parts.result (Gains (g.N.Sink.got c.args.note.now) text (g.N.Sink.got c.write_parts.new.sink)))
    (byte_pieces _ c.args.name.now c.args.blank.now c.args.identifier.now _ (c.as_bytes.ensures.value ∙ c.format.ensures.text))
    c.write_parts.ensures.ok

pub returns-clause-err : goal.returns-clause-err
returns-clause-err g c =
    subst (λ text. OnErr c.write_parts.result (GainsFront (g.N.Sink.got c.args.note.now) text (g.N.Sink.got c.write_parts.new.sink)))
    (byte_pieces _ c.args.name.now c.args.blank.now c.args.identifier.now _ (c.as_bytes.ensures.value ∙ c.format.ensures.text))
    c.write_parts.ensures.err
