use Rattle.std.proofs.Common.{◌∙◌, sym, ap, ◌++◌, ◌∷◌, []}
use Rattle.tree_map.proofs.Pairs.{entries-new, entries-old}
use Rattle.tree_map.proofs.map.put.Goals as goal

pub returns-then-is_new-clause-entries : goal.returns-then-is_new-clause-entries
returns-then-is_new-clause-entries g c =
    entries-new g.K.PartialEq.eq c.args.key c.args.value c.args.keys.now c.insert_full.new.self c.args.values.now.items c.push_reserved.new.self.items
    c.requires.even
    (sym c.if-is_new.true ∙ c.in_ok-place.ensures.added) c.in_ok-place.ensures.keys
    (c.push_reserved.ensures.items ∙ ap (λ l. l ++ c.args.value ∷ []) c.reserve.ensures.items)

pub returns-else-is_new-clause-entries : goal.returns-else-is_new-clause-entries
returns-else-is_new-clause-entries g c =
    entries-old g.K.PartialEq.eq c.args.key c.args.value c.args.keys.now c.insert_full.new.self c.args.values.now.items c.reserve.new.self.items
    c.in_ok-place.place c.requires.even
    (sym c.if-is_new.false ∙ c.in_ok-place.ensures.added) c.in_ok-place.ensures.keys c.reserve.ensures.items c.in_ok-place.ensures.index
