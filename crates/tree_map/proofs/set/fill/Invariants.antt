use Rattle.std.proofs.Common.{take}
use Rattle.std.specs.Ordering.{eq_by_cmp}
use Rattle.std.specs.BTreeMap.{get}
use Rattle.tree_map.specs.Places.{Finds}
use Rattle.tree_map.proofs.set.fill.Given as goal

-- the keys so far are found
abbrev pub invariant-loop-at : goal.invariant-loop-at
invariant-loop-at g l = Finds (eq_by_cmp g.T.Ord.cmp) (get g.T.Ord.cmp l.places) (take l.at l.keys)
