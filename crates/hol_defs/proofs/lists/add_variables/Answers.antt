use Rattle.std.proofs.Common.{map, [], sym, ap, ◌∙◌}
use Rattle.std.proofs.lemmas.List.{take_all}
use Rattle.hol_spec.specs.Lists.{union}
use Rattle.hol_defs.specs.Lists.{same_variable}
use Rattle.hol_defs.proofs.LoopLaws.{united_next}
use Rattle.hol_defs.proofs.lists.add_variables.Goals as goal

pub loop-pair-preserved : goal.loop-pair-preserved
loop-pair-preserved c =
    united_next same_variable (λ p. p.1) c.args.pairs.now c.loop-pair.pair-index c.pair-item.result c.loop-pair.set c.add.new.self _ c.loop-pair-test.true
    (sym c.pair-item.is) c.loop-pair.invariant
    (λ j. record { name = c.in_ok-clone.ensures.cases j; ty = c.pair-item.result.1.ty }) c.in_ok-add.ensures.added

pub returns : goal.returns
returns c = c.loop-pair.invariant ∙ ap (λ ps. union same_variable [] (map (λ p. p.1) ps))
    (take_all c.loop-pair.pair-index c.args.pairs.now c.loop-pair-test.false)
