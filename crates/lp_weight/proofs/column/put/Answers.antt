use Rattle.common.specs.AmountLaws.{grown-longer}
use Rattle.lp_weight.proofs.PackedLaws.{entries-more, entries-grown, spreads-more}
use Rattle.lp_weight.proofs.column.put.Goals as goal

pub returns-clause-entries : goal.returns-clause-entries
returns-clause-entries c =
    rw c.in_ok-push.ensures.items
    (entries-more _ _ _ (entries-grown _ _ _ (grown-longer _ _ c.packed.ensures.grown) c.requires) c.in_ok-entry.ensures.front c.in_ok-entry.ensures.inner)

pub returns-clause-put : goal.returns-clause-put
returns-clause-put c = rw c.in_ok-push.ensures.items (spreads-more _ _ _ _ _ c.packed.ensures.grown c.requires c.in_ok-entry.ensures.spread)
