use Rattle.std.proofs.Common.{◌≡◌, ◌+◌, drop}
use Rattle.std.specs.List.{position_or_len}
use Rattle.sequent.specs.Params.{is_variable}
use Rattle.sequent.proofs.closed.place_of_variable.Given as goal

abbrev pub invariant-loop-place : goal.invariant-loop-place
invariant-loop-place l = position_or_len (is_variable l.name l.ty) l.variables ≡ l.place + position_or_len (is_variable l.name l.ty) (drop l.place l.variables)
