use Rattle.std.specs.Prelude.{take, drop}
use Rattle.hol_defs.proofs.ListEnds.{IsTaking}
use Rattle.hol_defs.proofs.Symbols.take_list.Given as goal

abbrev pub invariant-loop-index : goal.invariant-loop-index
invariant-loop-index l = IsTaking l.fn.self l.self (take l.index l.pairs) (drop l.index l.pairs) (take l.index l.terms)
