use Rattle.std.specs.Prelude.{drop}
use Rattle.translate_term.proofs.MadeLaws.{IsGathering}
use Rattle.translate_term.proofs.types.parts.Given as goal

abbrev pub invariant-loop-id : goal.invariant-loop-id
invariant-loop-id l = IsGathering l.memo l.ids (drop l.id-index l.ids) l.parts.items
