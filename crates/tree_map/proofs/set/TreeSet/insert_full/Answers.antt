use Rattle.std.proofs.Common.{◌≡◌, ◌∙◌, None, sym, subst}
use Rattle.std.specs.Prelude.{not, IfOk, OnOk}
use Rattle.std.specs.List.{list_any, position_or_len}
use Rattle.std.specs.Ordering.{eq_by_cmp}
use Rattle.std.specs.Cmp.{eq_by_cmp_equiv}
use Rattle.std.specs.BTreeMap.{get}
use Rattle.tree_map.specs.Places.{place, ArePlaced}
use Rattle.tree_map.specs.Entries.{insert_key}
use Rattle.tree_map.proofs.Places.{place-same, place-within, insert_key-old, position-old, added-old, entered_keys, entered_index, entered_added, entered_places, ArePlaced-push, ArePlaced-still}
use Rattle.tree_map.proofs.set.TreeSet.insert_full.Goals as goal

-- each key is found, also the new one
pub invariant_of-self : goal.invariant_of-self
invariant_of-self g c =
    let cmp = g.T.Ord.cmp in
    let keys = c.self.inside.keys.items in
    let none : place (g.T.PartialEq.eq c.args.key) keys ≡ None =
    subst (λ l. place (g.T.PartialEq.eq c.args.key) l ≡ None) (sym c.self.view_is) (sym c.in-None.ensures) in
    let new : place (eq_by_cmp cmp c.args.key) keys ≡ None =
    sym (place-same (g.T.PartialEq.eq c.args.key) (eq_by_cmp cmp c.args.key) (g.met.T.Ord.matches_eq c.args.key) keys) ∙ none in
    let found = get cmp c.self.inside.places in
    let now = get cmp c.add.new.places in
    entered_places (eq_by_cmp cmp) keys c.add.new.keys.items c.args.key (ArePlaced (eq_by_cmp cmp) now) c.add.result
    c.add.ensures.keys c.add.ensures.placed c.add.ensures.unchanged
    (ArePlaced-push (eq_by_cmp_equiv g.met.T.Ord.total) found now keys c.args.key c.self.invariant new)
    (ArePlaced-still (eq_by_cmp cmp) found now keys c.self.invariant)

pub returns-in-Some-clause-keys : goal.returns-in-Some-clause-keys
returns-in-Some-clause-keys g c = insert_key-old g.T.PartialEq.eq c.args.key c.args.self.now c.in-Some.place (sym c.in-Some.ensures)

pub returns-in-Some-clause-index : goal.returns-in-Some-clause-index
returns-in-Some-clause-index g c = position-old g.T.PartialEq.eq c.args.key c.args.self.now c.in-Some.place (sym c.in-Some.ensures)

pub returns-in-Some-clause-within : goal.returns-in-Some-clause-within
returns-in-Some-clause-within g c = place-within (g.T.PartialEq.eq c.args.key) c.args.self.now c.in-Some.place (sym c.in-Some.ensures)

pub returns-in-Some-clause-added : goal.returns-in-Some-clause-added
returns-in-Some-clause-added g c = added-old g.T.PartialEq.eq c.args.key c.args.self.now c.in-Some.place (sym c.in-Some.ensures)

-- in the list that the fields hold, the key has no place
pub returns-in-None-clause-keys : goal.returns-in-None-clause-keys
returns-in-None-clause-keys g c =
    let eq = g.T.PartialEq.eq in
    let none : place (eq c.args.key) c.self.inside.keys.items ≡ None =
    subst (λ l. place (eq c.args.key) l ≡ None) (sym c.self.view_is) (sym c.in-None.ensures) in
    subst (λ l. OnOk c.add.result (c.add.new.keys.items ≡ insert_key eq l c.args.key)) c.self.view_is
    (entered_keys eq c.self.inside.keys.items c.add.new.keys.items c.args.key c.add.result none c.add.ensures.keys)

pub returns-in-None-clause-index : goal.returns-in-None-clause-index
returns-in-None-clause-index g c =
    let eq = g.T.PartialEq.eq in
    let none : place (eq c.args.key) c.self.inside.keys.items ≡ None =
    subst (λ l. place (eq c.args.key) l ≡ None) (sym c.self.view_is) (sym c.in-None.ensures) in
    subst (λ l. IfOk c.add.result (λ r. r.0 ≡ position_or_len (eq c.args.key) l)) c.self.view_is
    (entered_index eq c.self.inside.keys.items c.add.new.keys.items c.args.key c.add.result none c.add.ensures.place)

pub returns-in-None-clause-added : goal.returns-in-None-clause-added
returns-in-None-clause-added g c =
    let eq = g.T.PartialEq.eq in
    let none : place (eq c.args.key) c.self.inside.keys.items ≡ None =
    subst (λ l. place (eq c.args.key) l ≡ None) (sym c.self.view_is) (sym c.in-None.ensures) in
    subst (λ l. IfOk c.add.result (λ r. r.1 ≡ not (list_any (eq c.args.key) l))) c.self.view_is
    (entered_added eq c.self.inside.keys.items c.add.new.keys.items c.args.key c.add.result none c.add.ensures.place)
