use Rattle.std.proofs.Common.{subst}
use Rattle.std.specs.Prelude.{OnOk}
use Rattle.hol_rules.specs.Views.{parameters_view}
use Rattle.article_write_spec.specs.ArticleLength.{count_given}
use Rattle.article_count.specs.TermTasks.{CountsTerms}
use Rattle.article_count.proofs.terms.TermCount.count_parameters.Goals as goal

pub returns : goal.returns
returns c =
    let old = c.args.self.now in
    let new = c.count_given.new.self in
    subst (λ g. OnOk c.count_given.result (CountsTerms c.args.proof.now.trees old new (λ q. count_given q g))) c.params.ensures.is
    (subst (λ t. OnOk c.count_given.result (CountsTerms t old new (λ q. count_given q (parameters_view t c.params.result.now)))) c.terms.ensures
    c.count_given.ensures)
