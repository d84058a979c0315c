use Rattle.std.proofs.Common.{◌≡◌, ◌+◌, drop}
use Rattle.std.specs.List.{position_or_len}
use Rattle.hol_spec.specs.NameEquality.{name_eq}
use Rattle.sequent.proofs.closed.place_of_name.Given as goal

abbrev pub invariant-loop-place : goal.invariant-loop-place
invariant-loop-place l = position_or_len (name_eq l.name) l.names ≡ l.place + position_or_len (name_eq l.name) (drop l.place l.names)
