use Rattle.std.proofs.Common.{refl}
use Rattle.hol_text.proofs.Lists.{type_variables-more}
use Rattle.hol_text.proofs.add_type_variables.Goals as goal

pub loop-number-preserved : goal.loop-number-preserved
loop-number-preserved c =
    type_variables-more _ _ _ _ c.loop-number.number _ refl c.loop-number.invariant c.in_ok-add_mark.ensures c.in_ok-add_numbered.ensures
