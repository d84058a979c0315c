use Rattle.std.proofs.Common.{◌∙◌, length, refl, sym, subst, arith, ◌<◌}
use Rattle.hol_spec.specs.Proofs.{steps_of}
use Rattle.hol_rules.specs.Views.{step_at}
use Rattle.article_write_spec.specs.Drafts.{Draft}
use Rattle.article_write_spec.specs.ReachedSteps.{Numbered}
use Rattle.article_lines.specs.Flagged.{flag}
use Rattle.article_steps.specs.SelectedSteps.{numbered_from, flagged_writer, told_writer}
use Rattle.article_steps.proofs.SaidLaws.{appends-none}
use Rattle.article_steps.proofs.AddsLaws.{adds-nothing}
use Rattle.article_steps.proofs.EachLaws.{adds-same, each-first, each-next, each-failed, each-done}
use Rattle.article_steps.proofs.NewTheorems.{new-written}
use Rattle.article_steps.proofs.SelectedLaws.{each-selected, appends-told, numbered-step, length-numbered, new-step, new-told}
use Rattle.article_steps.proofs.StepWriters.{appends-by}
use Rattle.article_steps.proofs.article.write_steps.Goals as goal

pub loop-id-init : goal.loop-id-init
loop-id-init g c =
    let write = told_writer (flag c.args.source.told.now) (flagged_writer c.args.source.number (flag c.args.source.is_export.now)) in
    let appends = appends-told (flag c.args.source.told.now) (flagged_writer c.args.source.number (flag c.args.source.is_export.now))
    (λ (x : Numbered). appends-by c.args.source.number x.step.kind (flag c.args.source.is_export.now x.number) x.number x.step) in
    record {
      adds = each-first write appends c.args.source.proof.now.trees (numbered_from 0 (steps_of c.args.source.proof.now.made)) c.args.keys.now
          c.args.room.now.room _ _ c.requires.ready;
      new = c.requires.new;
    }

pub write_told-requires-clause-new : goal.write_told-requires-clause-new
write_told-requires-clause-new g c =
    new-step (steps_of c.args.source.proof.now.made) c.requires.pairs c.loop-id.keys c.loop-id.id (c.loop-id.invariant.adds.count ∙ c.requires.count)
    (omega (arith, c.loop-id-test.true, c.requires.told)) c.loop-id.invariant.new

pub write_told-requires-clause-count : goal.write_told-requires-clause-count
write_told-requires-clause-count g c = c.loop-id.invariant.adds.count ∙ c.requires.count

pub loop-id-preserved : goal.loop-id-preserved
loop-id-preserved g c =
    let steps = steps_of c.args.source.proof.now.made in
    let x = step_at c.args.source.proof.now.made c.loop-id.id in
    let write = told_writer (flag c.args.source.told.now) (flagged_writer c.args.source.number (flag c.args.source.is_export.now)) in
    let appends = appends-told (flag c.args.source.told.now) (flagged_writer c.args.source.number (flag c.args.source.is_export.now))
    (λ (y : Numbered). appends-by c.args.source.number y.step.kind (flag c.args.source.is_export.now y.number) y.number y.step) in
    let low : c.loop-id.id < length steps = omega (arith, c.loop-id-test.true, c.requires.told) in
    let count = c.loop-id.invariant.adds.count ∙ c.requires.count in
    record {
      adds = each-next write appends c.args.source.proof.now.trees (numbered_from 0 steps) c.loop-id.id (record { number = c.loop-id.id; step = x }) _ _ _ _ _ _
          _ _ _ _ _ _ _ (numbered-step steps c.loop-id.id low) c.in_ok-write_told.was c.loop-id.invariant.adds c.write_told.ensures;
      new = new-told steps c.requires.pairs c.loop-id.keys c.write_told.new.keys c.loop-id.id low
          (λ j less. new-written c.args.source.proof.now.trees _ c.args.source.number x.kind _ c.loop-id.id x _ _ _ _ _ _ _ _ _ _ j c.in_ok-write_told.was
          c.loop-id.invariant.adds.ready c.write_told.ensures (subst (λ n. j < n) (sym count) less)) c.loop-id.invariant.new;
    }

pub returns-in_err-write_told : goal.returns-in_err-write_told
returns-in_err-write_told g c =
    let steps = steps_of c.args.source.proof.now.made in
    let x = step_at c.args.source.proof.now.made c.loop-id.id in
    let write = told_writer (flag c.args.source.told.now) (flagged_writer c.args.source.number (flag c.args.source.is_export.now)) in
    let appends = appends-told (flag c.args.source.told.now) (flagged_writer c.args.source.number (flag c.args.source.is_export.now))
    (λ (y : Numbered). appends-by c.args.source.number y.step.kind (flag c.args.source.is_export.now y.number) y.number y.step) in
    let low : c.loop-id.id < length steps = omega (arith, c.loop-id-test.true, c.requires.told) in
    adds-same c.args.source.proof.now.trees _ _ _ _ _ _ _ _ _ _
    (each-selected (flag c.args.source.told.now) (flagged_writer c.args.source.number (flag c.args.source.is_export.now)) 0 steps)
    (each-failed write appends c.args.source.proof.now.trees (numbered_from 0 steps) c.loop-id.id (record { number = c.loop-id.id; step = x }) _ _ _ _ _ _ _ _ _
    _ _ _ _ _ _ (λ (d : Draft). d) appends-none (numbered-step steps c.loop-id.id low) c.in_err-write_told.was c.from_residual.ensures.0
    c.loop-id.invariant.adds c.write_told.ensures)

pub returns : goal.returns
returns g c =
    let steps = steps_of c.args.source.proof.now.made in
    let write = told_writer (flag c.args.source.told.now) (flagged_writer c.args.source.number (flag c.args.source.is_export.now)) in
    let appends = appends-told (flag c.args.source.told.now) (flagged_writer c.args.source.number (flag c.args.source.is_export.now))
    (λ (y : Numbered). appends-by c.args.source.number y.step.kind (flag c.args.source.is_export.now y.number) y.number y.step) in
    let count = length-numbered 0 steps in
    adds-same c.args.source.proof.now.trees _ _ _ _ _ _ _ _ _ _
    (each-selected (flag c.args.source.told.now) (flagged_writer c.args.source.number (flag c.args.source.is_export.now)) 0 steps)
    (each-done write appends c.args.source.proof.now.trees (numbered_from 0 steps) c.loop-id.id _ _ _ _ _ _ _ _ _ _ _ _ (λ (d : Draft). d) appends-none
    (omega (arith, count, c.requires.told, c.loop-id-test.false, c.loop-id.auto.id-end)) c.loop-id.invariant.adds
    (adds-nothing c.args.source.proof.now.trees c.loop-id.keys c.loop-id.room.room _ _ _ _ refl c.loop-id.invariant.adds.ready))
