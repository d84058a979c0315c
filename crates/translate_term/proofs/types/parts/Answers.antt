use Rattle.std.proofs.Common.{arith, subst}
use Rattle.std.proofs.lemmas.List.{drop_more}
use Rattle.translate_term.specs.Tasks.{AreAll, IsDone}
use Rattle.translate_term.proofs.ListSteps.{drop-all}
use Rattle.translate_term.proofs.MadeLaws.{IsGathering, gathering_begins, gathering_goes_on, gathering_ends, is_some-unless, if_some}
use Rattle.translate_term.proofs.types.parts.Goals as goal

pub loop-id-init : goal.loop-id-init
loop-id-init c = rw c.new-parts.ensures.items (gathering_begins _ _ c.requires)

pub unwrap-requires : goal.unwrap-requires
unwrap-requires c =
    let done = (subst (AreAll (IsDone c.args.memo.now)) (drop_more c.args.ids.now c.loop-id.id-index (record { 0 = 0 }) c.loop-id-test.true)
    c.loop-id.invariant.done).0 in
    is_some-unless c.find.result c.find.ensures.absent (λ absent. absent done.0 done.1)

pub loop-id-preserved : goal.loop-id-preserved
loop-id-preserved c =
    rw c.in_ok-push.ensures.items
    (gathering_goes_on _ _ _ c.loop-id.parts.items _ c.unwrap.result (if_some _ c.find.result c.unwrap.result c.unwrap.ensures c.find.ensures.noted)
    (subst (λ l. IsGathering c.args.memo.now c.args.ids.now l c.loop-id.parts.items) (drop_more c.args.ids.now c.loop-id.id-index _ c.loop-id-test.true)
    c.loop-id.invariant))

pub returns : goal.returns
returns c =
    gathering_ends _ _ _
    (subst (λ l. IsGathering c.args.memo.now c.args.ids.now l c.loop-id.parts.items)
    (drop-all c.args.ids.now c.loop-id.id-index (omega (arith, c.loop-id-test.false))) c.loop-id.invariant)
