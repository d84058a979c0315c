use Rattle.std.proofs.Common.{◌≡◌, map, take}
use Rattle.hol_defs.specs.Lists.{equation_at, equations_of, AreEquationsKnown}
use Rattle.hol_defs.proofs.lists.push_equations.Given as goal

abbrev pub invariant-loop-hyp : goal.invariant-loop-hyp
invariant-loop-hyp l = (map (equation_at l.table) l.all.items ≡ equations_of l.table l.variables (take l.hyp-index l.hyps)) × AreEquationsKnown l.table
    l.all.items
