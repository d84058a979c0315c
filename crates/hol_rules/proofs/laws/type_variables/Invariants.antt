use Rattle.std.specs.Prelude.{take}
use Rattle.hol_rules.proofs.LawTrees.{AreVariables}
use Rattle.hol_rules.proofs.laws.type_variables.Given as goal

abbrev pub invariant-loop-name : goal.invariant-loop-name
invariant-loop-name l = AreVariables l.fn.terms l.terms (take l.name-index l.names) l.ids.items
