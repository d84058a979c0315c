use Rattle.std.specs.Prelude.{drop}
use Rattle.hol_type.proofs.MadeLaws.{IsGathering}
use Rattle.hol_type.proofs.substitution.parts.Given as goal

abbrev pub invariant-loop-id : goal.invariant-loop-id
invariant-loop-id l = IsGathering l.made l.ids (drop l.id-index l.ids) l.parts.items
