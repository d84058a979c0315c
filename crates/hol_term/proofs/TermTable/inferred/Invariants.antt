use Rattle.std.proofs.Common.{◌≡◌}
use Rattle.hol_term.specs.Tables.{Keeps}
use Rattle.hol_term.specs.Typing.{seat_type}
use Rattle.hol_term.specs.Inferring.{IsInferring, count}
use Rattle.hol_term.proofs.TermTable.inferred.Given as goal

abbrev pub invariant-loop-step : goal.invariant-loop-step
invariant-loop-step l =
    (l.self.terms ≡ l.fn.self.terms) × Keeps l.fn.self l.self
    × IsInferring (seat_type l.fn.self l.fn.typings.scopes l.fn.root) l.self l.typings.scopes l.typings.found l.typings.steps l.typings.types

abbrev pub decreases-loop-step : goal.decreases-loop-step
decreases-loop-step l = count l.self.terms l.typings.steps
