use Rattle.std.proofs.Common.{◌-◌, length}
use Rattle.hol_variables.specs.Noted.{AreNoted}
use Rattle.hol_variables.proofs.ParamMemo.note_types.Given as goal

abbrev pub invariant-loop-types : goal.invariant-loop-types
invariant-loop-types l = AreNoted l.terms l.self

abbrev pub decreases-loop-types : goal.decreases-loop-types
decreases-loop-types l = length l.terms.types - length l.self.types.items
