use Rattle.std.proofs.Common.{refl}
use Rattle.hol_text.proofs.Lists.{variables-more}
use Rattle.hol_text.proofs.add_variables.Goals as goal

pub loop-number-preserved : goal.loop-number-preserved
loop-number-preserved c =
    variables-more _ _ _ _ c.args.types.now c.loop-number.number _ c.index-types-number.result refl c.index-types-number.is c.loop-number-test.true
    c.loop-number.invariant c.in_ok-add_mark.ensures c.in_ok-add_variable.ensures
