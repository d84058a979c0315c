use Rattle.std.proofs.Common.{◌∙◌, sym, ap, length}
use Rattle.tree_map.proofs.Pairs.{length-pairs}
use Rattle.tree_map.proofs.map.TreeMap.len.Goals as goal

pub returns-clause-count : goal.returns-clause-count
returns-clause-count g c = c.len.ensures.count ∙ sym (length-pairs c.self.inside.keys c.self.inside.values.items c.self.invariant) ∙ ap length c.self.view_is
