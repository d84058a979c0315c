use Rattle.std.proofs.Common.{◌++◌, ◌∷◌, []}
use Rattle.std.proofs.lemmas.List.{take_more}
use Rattle.hol_rules.proofs.substitution.copied_terms.Goals as goal

pub loop-variable-preserved : goal.loop-variable-preserved
loop-variable-preserved c =
    let item = c.loop-variable-item.result in
    rw (
      take_more c.args.pairs.now c.loop-variable.variable-index item c.loop-variable-test.true,
      ← c.loop-variable-item.is,
      c.push_reserved.ensures.items,
      c.reserve.ensures.items,
    ) (λ i. c.loop-variable.invariant i ++ (c.in_ok-own.ensures i, item.1) ∷ [])
