use Rattle.std.proofs.Common.{sym, ◌∙◌, ◌++◌, ◌∷◌, []}
use Rattle.std.proofs.lemmas.List.{take_all}
use Rattle.hol_defs.proofs.LoopLaws.{taken_next}
use Rattle.hol_defs.proofs.judging.push_copies.Goals as goal

pub loop-name-preserved : goal.loop-name-preserved
loop-name-preserved c =
    c.in_ok-push.ensures.items ∙ (λ j. c.loop-name.invariant j ++ c.in_ok-clone.ensures.cases j ∷ [])
    ∙ sym (taken_next c.args.names.now c.loop-name.name-index c.name-item.result c.loop-name-test.true (sym c.name-item.is))

pub returns : goal.returns
returns c = c.loop-name.invariant ∙ take_all c.loop-name.name-index c.args.names.now c.loop-name-test.false
