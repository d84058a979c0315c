use Rattle.std.proofs.Common.{length, ◌+◌, ◌-◌}
use Rattle.hol_rules.specs.Kept.{Kept}
use Rattle.translate_proof.specs.Keeping.{AreKept}
use Rattle.translate_proof.proofs.kept.KeptParams.reach.Given as goal

abbrev pub invariant-loop-self : goal.invariant-loop-self
invariant-loop-self l = (k : Kept) → AreKept k l.initial.self → AreKept k l.self

abbrev pub decreases-loop-self : goal.decreases-loop-self
decreases-loop-self l = l.place + 1 - length l.self.places.items
