use Rattle.std.proofs.Common.{refl, ◌+◌}
use Rattle.article_lines.proofs.NumberedTexts.{none-Numbered, behind-is, confirmed-Numbered, numbered-Confirmed, large-Numbered}
use Rattle.article_lines.proofs.binders.number_in.Goals as goal

pub returns-in_err-end : goal.returns-in_err-end
returns-in_err-end c =
    λ q low. ((λ e. absurd (let f = c.from_residual.ensures in cc)), (λ n. absurd (none-Numbered q c.args.text.now c.in_err-end.ensures.none n)))

pub returns-in_err-value : goal.returns-in_err-value
returns-in_err-value c =
    λ q low. (
      (λ e. absurd (let f = c.from_residual-in_err-value.ensures in cc)),
      (λ n. absurd (large-Numbered q c.args.text.now _ c.in_ok-end.end low c.in_ok-end.ensures.first refl c.in_err-value.ensures.large n)),
    )

pub returns : goal.returns
returns c = λ q low. (
  (λ e. confirmed-Numbered q c.args.text.now _ _ c.in_ok-end.end c.in_ok-value.value c.in_ok-end.ensures.first refl
      (behind-is c.args.text.now (c.in_ok-end.end + 1)) (c.confirmed.ensures.sound q e)),
  (λ n. c.confirmed.ensures.complete q
      (numbered-Confirmed q c.args.text.now _ _ c.in_ok-end.end c.in_ok-value.value low c.in_ok-end.ensures.first refl
      (behind-is c.args.text.now (c.in_ok-end.end + 1)) c.in_ok-value.ensures.value n)),
)
