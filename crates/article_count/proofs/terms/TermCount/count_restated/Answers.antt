use Rattle.std.proofs.Common.{subst, sym}
use Rattle.std.specs.Prelude.{OnOk}
use Rattle.hol_rules.specs.Views.{step_at}
use Rattle.article_write_spec.specs.ArticleLength.{count_restated}
use Rattle.article_count.specs.TermTasks.{CountsTerms}
use Rattle.article_count.proofs.terms.TermCount.count_restated.Goals as goal

pub returns-then-is_export : goal.returns-then-is_export
returns-then-is_export c =
    let x = step_at c.args.proof.now.made c.args.id in
    subst (λ b. OnOk c.count_export.result (CountsTerms c.args.proof.now.trees c.args.self.now c.count_export.new.self (λ q. count_restated q b c.args.id x)))
    (sym c.if-is_export.true) c.count_export.ensures

pub returns-else-is_export : goal.returns-else-is_export
returns-else-is_export c =
    let x = step_at c.args.proof.now.made c.args.id in
    subst (λ b. OnOk c.count_assumption.result
    (CountsTerms c.args.proof.now.trees c.args.self.now c.count_assumption.new.self (λ q. count_restated q b c.args.id x))) (sym c.if-is_export.false)
    c.count_assumption.ensures
