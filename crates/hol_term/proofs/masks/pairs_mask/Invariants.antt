use Rattle.std.proofs.Common.{◌≡◌}
use Rattle.std.specs.Prelude.{drop}
use Rattle.hol_term.specs.Masks.{with_pairs}
use Rattle.hol_term.proofs.masks.pairs_mask.Given as goal

abbrev pub invariant-loop-variable : goal.invariant-loop-variable
invariant-loop-variable l = with_pairs l.mask (drop l.variable-index l.pairs) ≡ with_pairs 0 l.pairs
