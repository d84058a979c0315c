use Rattle.std.proofs.Common.{◌+◌, sym, ap, ◌∙◌, true, false}
use Rattle.bridge_check.proofs.Counts.{none_by, unproved-more, unproved-same}
use Rattle.bridge_check.proofs.checking.unproved_count.Goals.{then-is_none, else-is_none}
use Rattle.bridge_check.proofs.checking.unproved_count.Goals as goal

pub loop-i-preserved : goal.loop-i-preserved
loop-i-preserved c =
    let d = c.get.result.now in
    elim c.if-is_none.branch [
      | then-is_none w ↦ w.count-is ∙ ap (λ n. n + 1) c.loop-i.invariant
          ∙ sym (unproved-more c.args.source.now c.loop-i.i d c.get.ensures (none_by d.body c.is_none.result true c.is_none.ensures w.if-is_none.true))
      | else-is_none w ↦ w.count-is ∙ c.loop-i.invariant
          ∙ sym (unproved-same c.args.source.now c.loop-i.i d c.get.ensures (none_by d.body c.is_none.result false c.is_none.ensures w.if-is_none.false))
    ]
