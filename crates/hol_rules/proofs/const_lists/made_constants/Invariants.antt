use Rattle.std.proofs.Common.{◌≡◌}
use Rattle.std.specs.Prelude.{take}
use Rattle.hol_rules.specs.ConstantLists.{named_constants}
use Rattle.hol_rules.proofs.const_lists.made_constants.Given as goal

abbrev pub invariant-loop-name : goal.invariant-loop-name
invariant-loop-name l = l.made.items ≡ named_constants (take l.name-index l.pairs)
