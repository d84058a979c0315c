use Rattle.std.proofs.Common.{◌≡◌, ◌+◌, ◌∙◌, ap, arith, length, take, length-append, List, ℕ}
use Rattle.article_write_spec.specs.ItemTexts.{component_text, components_text}
use Rattle.article_lines.specs.Writing.{behind_text}
use Rattle.article_lines.proofs.NameTexts.{next-components}
use Rattle.article_lines.proofs.lengths.name_length.Goals as goal

pub loop-index-preserved : goal.loop-index-preserved
loop-index-preserved c =
    let name : List (List ℕ) = c.args.name.now in
    let i : ℕ = c.loop-index.index in
    let component : List ℕ = c.component-in-loop-index.result.now in
    let text : length (components_text (take (i + 1) name)) ≡ length (components_text (take i name)) + (length (component_text component) + 1) =
    ap length (next-components name i component c.loop-index.invariant.from c.component-in-loop-index.ensures)
    ∙ length-append (components_text (take i name)) (behind_text component)
    ∙ (let e : length (components_text (take i name)) + length (behind_text component)
    ≡ length (components_text (take i name)) + (length (component_text component) + 1) = omega arith in e) in
    record {
      counted = omega (arith, c.loop-index.invariant.counted, c.component_length.ensures, c.saturating_add.ensures, c.saturating_add-length.ensures, text);
      from = omega (arith, c.loop-index.invariant.from);
    }
