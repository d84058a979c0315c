use Rattle.std.proofs.Common.{◌∙◌, ap}
use Rattle.tree_map.specs.Places.{place}
use Rattle.tree_map.proofs.Places.{position-place}
use Rattle.tree_map.proofs.set.TreeSet.place.Goals as goal

pub returns-then-len-le-FEW : goal.returns-then-len-le-FEW
returns-then-len-le-FEW g c =
    let test = g.T.PartialEq.eq c.args.key.now in
    c.seek.ensures ∙ position-place test c.deref.result.now ∙ ap (place test) (c.deref.ensures.value ∙ c.self.view_is)
