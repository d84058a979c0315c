use Rattle.std.proofs.Common.{◌≡◌}
use Rattle.std.specs.Prelude.{drop}
use Rattle.hol_spec.specs.Lists.{union, distinct, without}
use Rattle.sequent.specs.Sequents.{same_id}
use Rattle.sequent.proofs.ids.Ids.without.Given as goal

abbrev pub invariant-loop-number : goal.invariant-loop-number
invariant-loop-number l = union same_id l.rest (without same_id (drop l.number-index l.numbers) l.id) ≡ distinct same_id (without same_id l.numbers l.id)
