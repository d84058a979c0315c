use Rattle.std.proofs.Common.{◌∙◌, OnOk, OnErr, subst}
use Rattle.bridge_base.specs.Outside.{Gains, GainsFront}
use Rattle.bridge_translate.specs.Translations.{counts_in}
use Rattle.bridge_translate.proofs.CountLines.{counts_pieces}
use Rattle.bridge_translate.proofs.delivery.write_counts.Goals as goal

pub returns-clause-ok : goal.returns-clause-ok
returns-clause-ok g c =
    subst (λ text. OnOk c.write_parts.result (Gains (g.N.Sink.got c.args.note.now) text (g.N.Sink.got c.write_parts.new.sink)))
    (counts_pieces _ _ _ _ _ c.args.last.now (counts_in c.args.counts.now) (c.as_bytes.ensures.value ∙ c.format.ensures.text)
    (c.as_bytes-2.ensures.value ∙ c.format-2.ensures.text) (c.as_bytes-3.ensures.value ∙ c.format-3.ensures.text)
    (c.as_bytes-4.ensures.value ∙ c.format-4.ensures.text) (c.as_bytes-5.ensures.value ∙ c.format-5.ensures.text))
    c.write_parts.ensures.ok

pub returns-clause-err : goal.returns-clause-err
returns-clause-err g c =
    subst (λ text. OnErr c.write_parts.result (GainsFront (g.N.Sink.got c.args.note.now) text (g.N.Sink.got c.write_parts.new.sink)))
    (counts_pieces _ _ _ _ _ c.args.last.now (counts_in c.args.counts.now) (c.as_bytes.ensures.value ∙ c.format.ensures.text)
    (c.as_bytes-2.ensures.value ∙ c.format-2.ensures.text) (c.as_bytes-3.ensures.value ∙ c.format-3.ensures.text)
    (c.as_bytes-4.ensures.value ∙ c.format-4.ensures.text) (c.as_bytes-5.ensures.value ∙ c.format-5.ensures.text))
    c.write_parts.ensures.err
