use Rattle.std.proofs.Common.{◌≡◌}
use Rattle.hol_spec.specs.Lists.{union}
use Rattle.sequent.specs.Params.{same_variable}
use Rattle.sequent.proofs.params.Variables.unite.Given as goal

abbrev pub invariant-loop-variable : goal.invariant-loop-variable
invariant-loop-variable l = l.self ≡ union same_variable l.fn.self l.yielded
