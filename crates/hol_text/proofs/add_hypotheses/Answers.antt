use Rattle.std.proofs.Common.{refl}
use Rattle.hol_text.proofs.Lists.{hypotheses-more}
use Rattle.hol_text.proofs.add_hypotheses.Goals as goal

pub loop-place-preserved : goal.loop-place-preserved
loop-place-preserved c =
    hypotheses-more _ _ _ _ c.args.hyps.now c.loop-place.place _ c.index-hyps-place.result refl c.index-hyps-place.is c.loop-place-test.true
    c.loop-place.invariant c.in_ok-add_mark.ensures c.in_ok-add_term.ensures
