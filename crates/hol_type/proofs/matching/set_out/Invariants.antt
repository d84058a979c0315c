use Rattle.std.proofs.Common.{◌≡◌}
use Rattle.std.specs.Prelude.{drop}
use Rattle.hol_type.specs.Matchings.{with_pairs}
use Rattle.hol_type.proofs.matching.set_out.Given as goal

abbrev pub invariant-loop-index : goal.invariant-loop-index
invariant-loop-index l = with_pairs (drop l.index l.parts) (drop l.index l.images) l.tasks ≡ with_pairs l.parts l.images l.fn.tasks
