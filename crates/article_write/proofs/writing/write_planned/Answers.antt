use Rattle.std.proofs.Common.{sym, ap₂, subst, ◌∙◌}
use Rattle.hol_spec.specs.Proofs.{steps_of}
use Rattle.article_write_spec.specs.Article.{version_draft}
use Rattle.article_write_spec.specs.Drafts.{write_each}
use Rattle.article_write_spec.specs.ItemTexts.{text_of}
use Rattle.article_write_spec.specs.WrittenSteps.{write_step}
use Rattle.article_write_laws.specs.Flags.{selected}
use Rattle.article_lines.specs.Flagged.{flag, AreExports}
use Rattle.article_lines.specs.Writing.{Writes}
use Rattle.article_write.specs.Plans.{IsPlanOf}
use Rattle.article_write.proofs.PlanLaws.{plan-text}
use Rattle.article_write.proofs.writing.write_planned.Goals as goal

pub returns : goal.returns
returns g c version run h =
    let p = c.args.proof.now in
    let inside = c.plan.inside in
    let k = subst (IsPlanOf p version run) (sym c.plan.view_is) h in
    subst (λ text. Writes (g.S.Sink.got c.args.sink.now) (g.S.Sink.faults c.args.sink.now) text (g.S.Sink.got c.write_article.new.sink)
    (g.S.Sink.faults c.write_article.new.sink) c.write_article.result)
    (ap₂ (λ q flags. text_of (write_each (write_step q run.exports) (selected (flag flags) 0 (steps_of p.made)) (version_draft inside.version)).commands)
    c.number.ensures c.told.ensures ∙ plan-text p version run _ k)
    (c.write_article.ensures run.exports (subst (λ flags. AreExports flags run.exports) (sym c.is_export.ensures) k.reach.exports_are))
