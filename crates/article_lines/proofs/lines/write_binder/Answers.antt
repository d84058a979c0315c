use Rattle.std.proofs.Common.{◌∙◌, arith}
use Rattle.article_lines.specs.WritingLaws.{writes_same}
use Rattle.article_lines.proofs.BinderTexts.{binder-parts}
use Rattle.article_lines.proofs.lines.write_binder.Goals as goal

pub returns : goal.returns
returns g c =
    writes_same _ _
    (binder-parts c.args.number c.args.depth _ _ (c.as_bytes-first.ensures.value ∙ c.format.ensures.text)
    (c.as_bytes-second.ensures.value ∙ c.format-2.ensures.text) (omega arith) (omega arith))
    c.put_all.ensures
