use Rattle.std.proofs.Common.{◌∙◌}
use Rattle.article_lines.specs.WritingLaws.{writes_same, writes_stop, writes_then}
use Rattle.article_lines.proofs.NameTexts.{number-parts}
use Rattle.article_lines.proofs.lines.write_number.Goals as goal

pub returns-in_err-put : goal.returns-in_err-put
returns-in_err-put g c =
    writes_same _ _ (number-parts c.args.number _ (c.as_bytes.ensures.value ∙ c.format.ensures.text))
    (writes_stop _ _ _ _ _ _ _ _ _ c.in_err-put.was c.from_residual.ensures.0 c.put.ensures)

pub returns : goal.returns
returns g c =
    writes_same _ _ (number-parts c.args.number _ (c.as_bytes.ensures.value ∙ c.format.ensures.text))
    (writes_then _ _ _ _ _ _ _ _ _ _ _ c.in_ok-put.was c.put.ensures c.put-2.ensures)
