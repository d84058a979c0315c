use Rattle.std.proofs.Common.{ap, arith}
use Rattle.bridge_base.specs.Gaining.{gains_none}
use Rattle.article_write_spec.specs.ItemTexts.{text_of}
use Rattle.article_write_spec.specs.Article.{version_items}
use Rattle.article_lines.specs.WritingLaws.{writes_same}
use Rattle.article_steps.proofs.article.write_version.Goals as goal

pub returns-in-Five : goal.returns-in-Five
returns-in-Five g c = writes_same _ _ (ap (λ v. text_of (version_items v)) c.in-Five.is)
    (record { ok = gains_none _; err = tt; cause = record { later = omega arith; failed = tt } })

pub returns-in-Six : goal.returns-in-Six
returns-in-Six g c = writes_same _ _ (ap (λ v. text_of (version_items v)) c.in-Six.is) c.write_key.ensures
