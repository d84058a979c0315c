use Rattle.std.proofs.Common.{arith, subst}
use Rattle.hol_type.specs.Tables.{AreKnown}
use Rattle.std.proofs.lemmas.List.{drop_more, drop_all}
use Rattle.hol_type.proofs.MeasureLaws.{IsMeasuring, measuring_begins, measuring_goes_on, measuring_ends}
use Rattle.hol_type.proofs.table.TypeTable.measures.Goals as goal

pub loop-arg-init : goal.loop-arg-init
loop-arg-init c = measuring_begins _ _ c.requires

pub loop-arg-preserved : goal.loop-arg-preserved
loop-arg-preserved c =
    measuring_goes_on _ _ _ _ c.loop-arg.size c.loop-arg.depth c.measures_of-part.result _ _ c.measures_of-part.ensures c.saturating_add-size.ensures
    c.max-depth.ensures
    (subst (λ l. IsMeasuring c.args.self.now c.args.args.now l c.loop-arg.size c.loop-arg.depth)
    (drop_more c.args.args.now c.loop-arg.arg-index _ c.loop-arg-test.true) c.loop-arg.invariant)

pub measures_of-part-requires : goal.measures_of-part-requires
measures_of-part-requires c =
    (subst (AreKnown c.args.self.now) (drop_more c.args.args.now c.loop-arg.arg-index (record { 0 = 0 }) c.loop-arg-test.true) c.loop-arg.invariant.known).0

pub returns : goal.returns
returns c =
    measuring_ends c.args.self.now c.args.args.now c.loop-arg.size c.loop-arg.depth c.max-above.result c.saturating_add.result c.max-above.ensures
    c.saturating_add.ensures
    (subst (λ l. IsMeasuring c.args.self.now c.args.args.now l c.loop-arg.size c.loop-arg.depth)
    (drop_all c.loop-arg.arg-index c.args.args.now (omega (arith, c.loop-arg-test.false))) c.loop-arg.invariant)
