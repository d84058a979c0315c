use Rattle.std.proofs.Common.{refl, arith}
use Rattle.std.specs.Prelude.{slice_index_or}
use Rattle.article_write_spec.specs.Drafts.{Draft}
use Rattle.article_write_spec.specs.WrittenSteps.{write_premise}
use Rattle.std.proofs.ByRecursion.{All-get_or}
use Rattle.article_steps.proofs.SaidLaws.{appends-none}
use Rattle.article_steps.proofs.AddsLaws.{adds-nothing}
use Rattle.article_steps.proofs.GivenLaws.{item-here}
use Rattle.article_steps.proofs.EachLaws.{each-first, each-next, each-failed, each-done}
use Rattle.article_steps.proofs.StepWriters.{appends-premise}
use Rattle.article_steps.proofs.steps.refer_to_all.Goals as goal

pub loop-id-init : goal.loop-id-init
loop-id-init g c = record { adds = λ trees room o. each-first write_premise appends-premise trees c.args.ids.now c.args.keys.now room _ _ o }

pub refer_to-requires : goal.refer_to-requires
refer_to-requires g c = All-get_or _ c.args.ids.now c.loop-id.id-index 0 c.loop-id-test.true c.requires

pub loop-id-preserved : goal.loop-id-preserved
loop-id-preserved g c = record {
  adds = λ trees room o. each-next write_premise appends-premise trees c.args.ids.now c.loop-id.id-index (slice_index_or c.args.ids.now c.loop-id.id-index 0) _
      _ _ _ _ _ _ _ _ _ _ _ _ (item-here c.args.ids.now c.loop-id.id-index 0 c.loop-id-test.true) c.in_ok-refer_to.was (c.loop-id.invariant.adds trees room o)
      (c.refer_to.ensures trees room o);
}

pub returns-in_err-refer_to : goal.returns-in_err-refer_to
returns-in_err-refer_to g c = λ trees room o.
    each-failed write_premise appends-premise trees c.args.ids.now c.loop-id.id-index (slice_index_or c.args.ids.now c.loop-id.id-index 0) _ _ _ _ _ _ _ _ _ _ _
    _ _ _ _ (λ (d : Draft). d) appends-none (item-here c.args.ids.now c.loop-id.id-index 0 c.loop-id-test.true) c.in_err-refer_to.was
    c.from_residual.ensures.0 (c.loop-id.invariant.adds trees room o) (c.refer_to.ensures trees room o)

pub returns : goal.returns
returns g c = λ trees room o.
    each-done write_premise appends-premise trees c.args.ids.now c.loop-id.id-index _ _ _ _ _ _ _ _ _ _ _ _ (λ (d : Draft). d) appends-none
    (omega (arith, c.loop-id-test.false, c.loop-id.auto.id-index-end)) (c.loop-id.invariant.adds trees room o)
    (adds-nothing trees c.args.keys.now room _ _ _ _ refl o)
