use Rattle.std.proofs.Common.{◌∙◌, refl, sym, subst, ap}
use Rattle.hol_rules.specs.Views.{step_at}
use Rattle.article_write_spec.specs.WrittenSteps.{write_by}
use Rattle.article_lines.specs.NewSteps.{IsNewStep}
use Rattle.article_lines.specs.Flagged.{flag}
use Rattle.article_steps.proofs.AddsLaws.{adds-nothing}
use Rattle.article_steps.proofs.EachLaws.{adds-same}
use Rattle.article_steps.proofs.StepWriters.{by-plain}
use Rattle.article_steps.proofs.steps.write_step.Goals as goal

pub write_assumption-requires-clause-new : goal.write_assumption-requires-clause-new
write_assumption-requires-clause-new g c = subst (λ k. IsNewStep c.args.keys.now k c.args.id) (sym c.kind.ensures ∙ c.in-Axiom.is) c.requires.new

pub returns-in-Axiom : goal.returns-in-Axiom
returns-in-Axiom g c =
    let x = step_at c.args.source.proof.now.made c.args.id in
    adds-same c.args.source.proof.now.trees _ _ _ _ _ _ _ _ _ _
    (λ d. ap (λ k. write_by c.args.source.number k (flag c.args.source.is_export.now c.args.id) c.args.id x d) (sym c.in-Axiom.is ∙ c.kind.ensures))
    c.write_assumption.ensures

pub returns-in-SecondLaw : goal.returns-in-SecondLaw
returns-in-SecondLaw g c =
    let x = step_at c.args.source.proof.now.made c.args.id in
    adds-same c.args.source.proof.now.trees _ _ _ _ _ _ _ _ _ _
    (λ d. ap (λ k. write_by c.args.source.number k (flag c.args.source.is_export.now c.args.id) c.args.id x d) (sym c.in-SecondLaw.is ∙ c.kind.ensures))
    (adds-nothing c.args.source.proof.now.trees c.args.keys.now c.args.room.now.room _ _ _ _ refl c.requires.ready)

pub returns-in_default : goal.returns-in_default
returns-in_default g c =
    let x = step_at c.args.source.proof.now.made c.args.id in
    adds-same c.args.source.proof.now.trees _ _ _ _ _ _ _ _ _ _
    (λ d. by-plain c.args.source.number c.kind.result (flag c.args.source.is_export.now c.args.id) c.args.id x c.in_default.not-Axiom c.in_default.not-Restate
    c.in_default.not-SecondLaw d ∙ ap (λ k. write_by c.args.source.number k (flag c.args.source.is_export.now c.args.id) c.args.id x d) c.kind.ensures)
    c.write_inferred.ensures
