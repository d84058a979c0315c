use Rattle.std.proofs.Common.{subst}
use Rattle.std.specs.Ordering.{eq_by_cmp}
use Rattle.std.specs.Cmp.{eq_by_cmp_equiv}
use Rattle.std.specs.BTreeMap.{get}
use Rattle.tree_map.specs.Places.{ArePlaced}
use Rattle.tree_map.proofs.Places.{ArePlaced-pop}
use Rattle.tree_map.proofs.set.TreeSet.pop.Goals as goal

-- the last key is found no more
pub invariant_of-self : goal.invariant_of-self
invariant_of-self g c =
    let found = get g.T.Ord.cmp c.self.inside.places in
    ArePlaced-pop (eq_by_cmp_equiv g.met.T.Ord.total) found (get g.T.Ord.cmp c.remove.new.self) c.pop.new.self.items c.in-Some.key
    (subst (ArePlaced (eq_by_cmp g.T.Ord.cmp) found) c.in-Some.ensures.items c.self.invariant) c.remove.ensures.updates.0
