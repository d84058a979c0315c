use Rattle.std.proofs.Common.{◌≡◌, ◌+◌, ◌∙◌, ap, arith, length, take, length-append}
use Rattle.std.specs.Prelude.{slice_index_or}
use Rattle.article_write_spec.specs.ItemTexts.{component_text}
use Rattle.article_lines.specs.Writing.{byte_text}
use Rattle.article_lines.proofs.NameTexts.{next-byte}
use Rattle.article_lines.proofs.lengths.component_length.Goals as goal

pub loop-byte-preserved : goal.loop-byte-preserved
loop-byte-preserved c =
    let bytes = c.args.component.now in
    let i = c.loop-byte.byte-index in
    let b = slice_index_or bytes i 0 in
    let text : length (component_text (take (i + 1) bytes)) ≡ length (component_text (take i bytes)) + length (byte_text b) =
    ap length (next-byte bytes i (omega (arith, c.loop-byte-test.true, c.loop-byte.auto.byte-index-end)))
    ∙ length-append (component_text (take i bytes)) (byte_text b) in
    record { counted = omega (arith, c.loop-byte.invariant.counted, c.byte_length.ensures, c.saturating_add-length.ensures, text) }
