use Rattle.std.proofs.Common.{refl, sym, ap, ap₂, subst, ◌∙◌, [], length}
use Rattle.std.specs.List.{list_all}
use Rattle.hol_spec.specs.Proofs.{steps_of}
use Rattle.article_write_spec.specs.ArticleLength.{count_step}
use Rattle.article_write_spec.specs.Article.{version_items}
use Rattle.article_write_spec.specs.Lengths.{Tally, capped, count_each, items_length}
use Rattle.article_write_laws.specs.CountedArticles.{lengths_are_counted}
use Rattle.article_write_laws.specs.Flags.{selected}
use Rattle.article_lines.specs.Flagged.{flag, AreExports}
use Rattle.article_lines.specs.Greatest.{greatest_length}
use Rattle.article_lines.specs.Things.{none_keyed}
use Rattle.article_steps.specs.Agendas.{IsRoomy}
use Rattle.article_write.specs.Fitting.{fits_step}
use Rattle.article_write.specs.Plans.{run_of}
use Rattle.article_write.proofs.PlanLaws.{reach-fits, reach-tally}
use Rattle.article_write.proofs.planning.plan.Goals as goal

pub returns : goal.returns
returns c =
    let p = c.args.proof.now in
    let version = c.args.version in
    let exports = c.args.exports.now in
    let run = run_of p c.args.assumptions.now exports in
    let r = c.in_ok-reach.reach in
    let h = c.in_ok-reach.ensures in
    let trees = c.terms-terms.ensures in
    record {
      planned = record {
        made = refl;
        of_version = refl;
        reach = h;
        pairs = c.are_paired.ensures c.if-not-are_paired.false;
        fitting = c.is_fitting-fits.ensures exports (subst (λ flags. AreExports flags exports) (sym c.is_export.ensures) h.exports_are)
            ∙ ap (λ flags. list_all (fits_step version exports) (selected (flag flags) 0 (steps_of p.made))) c.told.ensures ∙ reach-fits version run r h;
        counted = c.in_ok-count.ensures exports (subst (λ flags. AreExports flags exports) (sym c.is_export-2.ensures) h.exports_are)
            ∙ ap₂ (λ q flags. capped greatest_length
            (count_each (count_step q exports) (selected (flag flags) 0 (steps_of p.made))
            (record { kept = []; length = items_length (version_items version) })).length) c.number.ensures c.told-2.ensures
            ∙ ap (λ (m : Tally). capped greatest_length m.length) (reach-tally version run r h)
            ∙ lengths_are_counted greatest_length version run c.is_proof.ensures;
        keys = c.in_ok-keys.ensures ∙ ap₂ (λ a b. none_keyed a b c.len.result)
            (c.count.ensures.count ∙ ap length (c.types.ensures.types ∙ ap (λ t. t.types) trees)) (c.count-2.ensures ∙ ap (λ t. length t.terms) trees)
            ∙ ap (none_keyed (length p.trees.types) (length p.trees.terms)) c.len.ensures;
        room = subst (λ t. IsRoomy t c.in_ok-room.room.room) trees c.in_ok-room.ensures;
      };
    }
