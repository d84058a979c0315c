use Rattle.std.proofs.Common.{sym, ◌∙◌}
use Rattle.article_lines.proofs.NumberedTexts.{first-yes, numbered-name, name-numbered, name-other}
use Rattle.article_lines.proofs.binders.binder_number.Goals as goal

pub returns-in_err-text : goal.returns-in_err-text
returns-in_err-text c = λ q low. (
  (λ e. absurd (let f = c.from_residual.ensures in cc)),
  (λ e. absurd (name-other q c.args.name.now c.component.result.now c.component.ensures (sym c.len.ensures.count ∙ c.if-len-ne1.false)
      c.in_err-text.ensures.cases e)),
)

pub returns : goal.returns
returns c = λ q low. (
  (λ e. numbered-name q c.args.name.now c.component.result.now _ c.component.ensures (sym c.len.ensures.count ∙ c.if-len-ne1.false)
      (first-yes c.component.result.now _ c.in_ok-text.ensures.cases.0 c.in_ok-text.ensures.cases.1) ((c.number_in.ensures q low).0 e)),
  (λ e. (c.number_in.ensures q low).1
      (name-numbered q c.args.name.now c.component.result.now _ c.component.ensures (sym c.len.ensures.count ∙ c.if-len-ne1.false)
      (first-yes c.component.result.now _ c.in_ok-text.ensures.cases.0 c.in_ok-text.ensures.cases.1) e)),
)
