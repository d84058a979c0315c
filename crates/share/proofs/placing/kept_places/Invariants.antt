use Rattle.std.proofs.Common.{◌≡◌, ◌++◌, drop}
use Rattle.share.specs.Placings.{kept_places}
use Rattle.share.proofs.placing.kept_places.Given as goal

abbrev pub invariant-loop-i : goal.invariant-loop-i
invariant-loop-i l = l.places.items ++ kept_places l.i (drop l.i l.entries) ≡ kept_places 0 l.entries
