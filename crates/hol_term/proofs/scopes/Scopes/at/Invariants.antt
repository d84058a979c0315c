use Rattle.std.proofs.Common.{◌≡◌, ◌<◌, length}
use Rattle.std.specs.Prelude.{slice_get}
use Rattle.hol_term.specs.Scopes.{list_in}
use Rattle.hol_term.proofs.scopes.Scopes.at.Given as goal

abbrev pub invariant-loop-here : goal.invariant-loop-here
invariant-loop-here l = (l.round.0 < length l.self) × (slice_get (list_in l.self l.round.0) l.left ≡ slice_get (list_in l.self l.fn.scope.0) l.fn.n)

abbrev pub decreases-loop-here : goal.decreases-loop-here
decreases-loop-here l = l.round.0
