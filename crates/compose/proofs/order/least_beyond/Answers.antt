use Rattle.std.proofs.Common.{subst, sym, arith, List}
use Rattle.std.proofs.lemmas.List.{take_more}
use Rattle.hol_term.specs.declared.TermId.{TermId}
use Rattle.compose.specs.Orders.{IsLeastBeyond}
use Rattle.compose.proofs.order.least_beyond.Goals as goal

pub loop-id-preserved : goal.loop-id-preserved
loop-id-preserved c = record {
  least = subst (λ (l : List TermId). IsLeastBeyond l c.args.others.now c.with_next-least.result)
      (sym (take_more c.ids-id-items.result.now c.loop-id.id-index _ (omega (arith, c.loop-id-test.true, c.loop-id.auto.id-index-end))))
      (c.with_next-least.ensures _ c.loop-id.invariant.least);
}
