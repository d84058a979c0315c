use Rattle.std.proofs.Common.{◌∙◌, sym, ap, take}
use Rattle.std.specs.List.{zip}
use Rattle.tree_map.proofs.Pairs.{take-zip}
use Rattle.tree_map.proofs.map.TreeMap.truncate.Goals as goal

pub returns : goal.returns
returns g c =
    (λ i. zip (c.truncate.ensures i) (c.truncate-2.ensures.items i)) ∙ sym (take-zip c.args.len c.self.inside.keys c.self.inside.values.items)
    ∙ ap (take c.args.len) c.self.view_is
