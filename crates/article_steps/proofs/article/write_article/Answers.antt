use Rattle.std.proofs.Common.{ap, sym, subst, arith}
use Rattle.hol_spec.specs.Proofs.{steps_of}
use Rattle.article_write_spec.specs.Article.{version_items}
use Rattle.article_write_spec.specs.ItemTexts.{text_of}
use Rattle.article_lines.specs.Things.{Keyed}
use Rattle.article_lines.specs.KeptThings.{AreDistinct}
use Rattle.article_lines.specs.WritingLaws.{writes_then, writes_stop, writes_same}
use Rattle.article_steps.specs.TheoremKeys.{AreNewFrom}
use Rattle.article_steps.proofs.ArticleTexts.{none-known, article-text}
use Rattle.article_steps.proofs.SelectedLaws.{none-new}
use Rattle.article_steps.proofs.article.write_article.Goals as goal

pub write_steps-requires-clause-ready : goal.write_steps-requires-clause-ready
write_steps-requires-clause-ready g c = record {
  known = none-known c.args.source.proof.now.trees _ c.args.keys.now c.requires.keys (subst AreDistinct c.terms.ensures c.are_distinct.ensures);
  roomy =
      c.requires.room;
}

pub write_steps-requires-clause-count : goal.write_steps-requires-clause-count
write_steps-requires-clause-count g c = ap (λ (k : Keyed). k.theorems) c.requires.keys

pub write_steps-requires-clause-new : goal.write_steps-requires-clause-new
write_steps-requires-clause-new g c = subst (λ k. AreNewFrom (steps_of c.args.source.proof.now.made) k 0) (sym c.requires.keys)
    (none-new (steps_of c.args.source.proof.now.made) _ _ _)

pub returns-in_err-write_version : goal.returns-in_err-write_version
returns-in_err-write_version g c = λ exports are.
    writes_same _ _ (article-text c.args.source.proof.now.trees c.args.keys.now _ c.args.source.number c.args.version c.args.source.told.now
    c.args.source.is_export.now exports (steps_of c.args.source.proof.now.made) c.requires.keys are (omega (arith, c.requires.exports)))
    (writes_stop _ _ _ _ (text_of (version_items c.args.version)) _ _ _ _ c.in_err-write_version.was c.from_residual.ensures.0 c.write_version.ensures)

pub returns : goal.returns
returns g c = λ exports are.
    writes_same _ _ (article-text c.args.source.proof.now.trees c.args.keys.now _ c.args.source.number c.args.version c.args.source.told.now
    c.args.source.is_export.now exports (steps_of c.args.source.proof.now.made) c.requires.keys are (omega (arith, c.requires.exports)))
    (writes_then _ _ _ _ _ _ (text_of (version_items c.args.version)) _ _ _ _ c.in_ok-write_version.was c.write_version.ensures
    c.write_steps.ensures.tells.writes)
