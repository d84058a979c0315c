use Rattle.std.specs.Prelude.{drop}
use Rattle.hol_variables.specs.Lists.{KeepsLists}
use Rattle.hol_variables.proofs.Gathered.{IsGathering}
use Rattle.hol_variables.proofs.catching_up.names_of_all.Given as goal

abbrev pub invariant-loop-arg : goal.invariant-loop-arg
invariant-loop-arg l = KeepsLists l.fn.lists l.lists × IsGathering l.types l.noted l.args (drop l.arg-index l.args) l.lists l.list
