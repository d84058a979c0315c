use Rattle.std.proofs.Common.{[], ◌∷◌, pos}
use Rattle.article_spec.specs.declared.commands.Item.TheVariants as item
use Rattle.article_lines.specs.WritingLaws.{writes_same, writes_stop, writes_then}
use Rattle.article_lines.proofs.NameTexts.{two-lines}
use Rattle.article_lines.proofs.lines.write_key.Goals as goal

pub returns-in_err-write_number : goal.returns-in_err-write_number
returns-in_err-write_number g c =
    writes_same _ _ (two-lines (item.Number (pos c.args.key)) (item.Word c.args.word))
    (writes_stop _ _ _ _ _ _ _ _ _ c.in_err-write_number.was c.from_residual.ensures.0 c.write_number.ensures)

pub returns : goal.returns
returns g c =
    writes_same _ _ (two-lines (item.Number (pos c.args.key)) (item.Word c.args.word))
    (writes_then _ _ _ _ _ _ _ _ _ _ _ c.in_ok-write_number.was c.write_number.ensures c.write_word.ensures)
