use Rattle.std.proofs.Common.{take}
use Rattle.hol_defs.specs.Lists.{AreFound}
use Rattle.hol_defs.proofs.lists.first_terms.Given as goal

abbrev pub invariant-loop-pair : goal.invariant-loop-pair
invariant-loop-pair l = AreFound (take l.pair-index l.pairs) l.fn.equations.items l.terms.items
