use Rattle.std.proofs.Common.{◌≡◌}
use Rattle.std.specs.Prelude.{drop}
use Rattle.std.specs.Map.{lookup}
use Rattle.sequent.specs.Params.{same_variable}
use Rattle.translate_proof.specs.Constants.{by_variable}
use Rattle.translate_proof.proofs.constants.put_constant.Given as goal

abbrev pub invariant-loop-name : goal.invariant-loop-name
invariant-loop-name l = lookup (same_variable l.variable) (by_variable (drop l.name-index l.pairs)) ≡ lookup (same_variable l.variable) (by_variable l.pairs)
