use Rattle.std.proofs.Common.{◌++◌, ◌∷◌, []}
use Rattle.std.proofs.lemmas.List.{take_more}
use Rattle.hol_rules.proofs.const_lists.copied.Goals as goal

pub loop-name-preserved : goal.loop-name-preserved
loop-name-preserved c =
    let item = c.loop-name-item.result in
    rw (
      take_more c.args.pairs.now c.loop-name.name-index item c.loop-name-test.true,
      ← c.loop-name-item.is,
      c.push_reserved.ensures.items,
      c.reserve.ensures.items,
    ) (λ i. c.loop-name.invariant i ++ (c.in_ok-own_name.ensures.cases i, c.in_ok-own.ensures i) ∷ [])
