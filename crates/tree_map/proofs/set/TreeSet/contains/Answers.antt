use Rattle.std.proofs.Common.{◌∙◌, sym, ap}
use Rattle.std.specs.Prelude.{is_some}
use Rattle.tree_map.proofs.Places.{any-place}
use Rattle.tree_map.proofs.set.TreeSet.contains.Goals as goal

pub returns : goal.returns
returns g c = c.is_some.ensures ∙ ap is_some c.place.ensures ∙ sym (any-place (g.T.PartialEq.eq c.args.key.now) c.args.self.now)
