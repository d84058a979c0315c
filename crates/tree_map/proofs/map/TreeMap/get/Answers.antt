use Rattle.std.proofs.Common.{◌∙◌, sym, ap, slice_get}
use Rattle.std.specs.Map.{lookup}
use Rattle.tree_map.proofs.Pairs.{lookup-Some, lookup-None}
use Rattle.tree_map.proofs.map.TreeMap.get.Goals as goal

pub returns-in-Some : goal.returns-in-Some
returns-in-Some g c =
    let same = g.K.PartialEq.eq c.args.key.now in
    c.value_at.ensures ∙ ap (λ l. slice_get l c.in-Some.place) c.deref.ensures.value
    ∙ sym (lookup-Some same c.self.inside.keys c.self.inside.values.items c.in-Some.place c.self.invariant (sym c.in-Some.ensures))
    ∙ ap (lookup same) c.self.view_is

pub returns-in-None : goal.returns-in-None
returns-in-None g c =
    let same = g.K.PartialEq.eq c.args.key.now in
    sym (lookup-None same c.self.inside.keys c.self.inside.values.items (sym c.in-None.ensures)) ∙ ap (lookup same) c.self.view_is
