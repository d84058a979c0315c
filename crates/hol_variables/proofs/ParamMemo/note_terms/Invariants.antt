use Rattle.std.proofs.Common.{◌≡◌, ◌-◌, length}
use Rattle.hol_variables.specs.Noted.{AreNoted}
use Rattle.hol_variables.proofs.ParamMemo.note_terms.Given as goal

abbrev pub invariant-loop-self : goal.invariant-loop-self
invariant-loop-self l = AreNoted l.terms l.self × (length l.self.types.items ≡ length l.terms.types)

abbrev pub decreases-loop-self : goal.decreases-loop-self
decreases-loop-self l = length l.terms.terms - length l.self.terms.items
