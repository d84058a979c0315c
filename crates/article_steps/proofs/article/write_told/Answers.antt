use Rattle.std.proofs.Common.{refl, sym, ap}
use Rattle.hol_rules.specs.Views.{step_at}
use Rattle.article_write_spec.specs.WrittenSteps.{write_by}
use Rattle.article_steps.specs.SelectedSteps.{written_if}
use Rattle.article_lines.specs.Flagged.{flag}
use Rattle.article_steps.proofs.AddsLaws.{adds-nothing}
use Rattle.article_steps.proofs.EachLaws.{adds-same}
use Rattle.article_steps.proofs.article.write_told.Goals as goal

pub returns-then-source-id : goal.returns-then-source-id
returns-then-source-id g c =
    let x = step_at c.args.source.proof.now.made c.args.id in
    adds-same c.args.source.proof.now.trees _ _ _ _ _ _ _ _ _ _
    (λ d. ap (λ b. written_if b (write_by c.args.source.number x.kind (flag c.args.source.is_export.now c.args.id) c.args.id x) d)
    (sym c.if-source-id.true)) c.write_step.ensures

pub returns : goal.returns
returns g c =
    let x = step_at c.args.source.proof.now.made c.args.id in
    adds-same c.args.source.proof.now.trees _ _ _ _ _ _ _ _ _ _
    (λ d. ap (λ b. written_if b (write_by c.args.source.number x.kind (flag c.args.source.is_export.now c.args.id) c.args.id x) d)
    (sym c.if-source-id.false))
    (adds-nothing c.args.source.proof.now.trees c.args.keys.now c.args.room.now.room _ _ _ _ refl c.requires.ready)
