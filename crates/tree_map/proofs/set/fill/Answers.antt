use Rattle.std.proofs.Common.{◌≡◌, Some, cond, subst}
use Rattle.std.specs.Ordering.{eq_by_cmp}
use Rattle.std.specs.Cmp.{eq_by_cmp_equiv}
use Rattle.std.specs.BTreeMap.{get}
use Rattle.tree_map.proofs.Places.{Finds-more}
use Rattle.tree_map.proofs.set.fill.Goals as goal

-- the next key is found too
pub loop-at-preserved : goal.loop-at-preserved
loop-at-preserved g c =
    let cmp = g.T.Ord.cmp in
    let old = get cmp c.loop-at.places in
    let new = get cmp c.insert.new.self in
    let same : c.in_ok-copy.copy ≡ c.index-keys-at.result = c.requires.clones c.index-keys-at.result c.in_ok-copy.copy c.in_ok-copy.ensures.cases in
    Finds-more (eq_by_cmp_equiv g.met.T.Ord.total) old new c.args.keys.now c.loop-at.at c.index-keys-at.result c.requires.once c.loop-at-test.true
    c.index-keys-at.is c.loop-at.invariant
    (subst (λ k. (q : g.row.T.Denot) → new q ≡ cond (eq_by_cmp cmp k q) (Some c.loop-at.at) (old q)) same c.in_ok-insert.ensures.updates.0)
