use Rattle.std.proofs.Common.{◌≡◌}
use Rattle.std.specs.Prelude.{drop}
use Rattle.hol_spec.specs.Lists.{union}
use Rattle.sequent.specs.Sequents.{same_id}
use Rattle.sequent.proofs.ids.Ids.unite.Given as goal

abbrev pub invariant-loop-id : goal.invariant-loop-id
invariant-loop-id l = union same_id l.self (drop l.id-index l.numbers) ≡ union same_id l.fn.self l.numbers
