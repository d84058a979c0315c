use Rattle.std.proofs.Common.{◌∙◌, subst, sym}
use Rattle.std.specs.Prelude.{OnOk}
use Rattle.std.proofs.lemmas.Result.{on_ok_weaker}
use Rattle.hol_rules.specs.Views.{step_at}
use Rattle.article_write_spec.specs.ArticleLength.{count_by}
use Rattle.article_count.specs.TermTasks.{CountsTerms, IsTermTally}
use Rattle.article_count.proofs.StepParts.{by-inferred}
use Rattle.article_count.proofs.terms.TermCount.count_step.Goals as goal

pub returns-in-Axiom : goal.returns-in-Axiom
returns-in-Axiom c =
    let x = step_at c.args.proof.now.made c.args.id in
    subst (λ k. OnOk c.count_assumption.result
    (CountsTerms c.args.proof.now.trees c.args.self.now c.count_assumption.new.self (λ q. count_by q k c.args.is_export c.args.id x)))
    (sym (sym c.kind.ensures ∙ c.in-Axiom.is)) c.count_assumption.ensures

pub returns-in-Restate : goal.returns-in-Restate
returns-in-Restate c =
    let x = step_at c.args.proof.now.made c.args.id in
    subst (λ k. OnOk c.count_restated.result
    (CountsTerms c.args.proof.now.trees c.args.self.now c.count_restated.new.self (λ q. count_by q k c.args.is_export c.args.id x)))
    (sym (sym c.kind.ensures ∙ c.in-Restate.is)) c.count_restated.ensures

pub returns-in_default : goal.returns-in_default
returns-in_default c = on_ok_weaker c.count_inferred.result
    (λ counts steps q m h.
    let x = step_at c.args.proof.now.made c.args.id in
    let e = c.kind.ensures in
    subst (IsTermTally c.args.proof.now.trees steps q c.count_inferred.new.self)
    (sym (by-inferred q x.kind c.args.is_export c.args.id x m (λ f. c.in_default.not-Axiom (e ∙ f)) (λ f. c.in_default.not-Restate (e ∙ f))
    (λ f. c.in_default.not-SecondLaw (e ∙ f)))) (counts steps q m h))
    c.count_inferred.ensures
