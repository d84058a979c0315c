use Rattle.std.specs.Prelude.{take}
use Rattle.hol_rules.proofs.ListPut.{ArePut}
use Rattle.hol_rules.proofs.const_lists.put_constants.Given as goal

abbrev pub invariant-loop-name : goal.invariant-loop-name
invariant-loop-name l = ArePut l.fn.terms l.terms (take l.name-index l.pairs) l.put.items
