use Rattle.std.proofs.Common.{◌∙◌, ap, subst, sym, ⊎_elim}
use Rattle.std.specs.Cmp.{eq_by_cmp_equiv}
use Rattle.std.specs.List.{find}
use Rattle.std.specs.Ordering.{eq_by_cmp}
use Rattle.tree_map.specs.Noted.{IsNoted}
use Rattle.tree_map.specs.NotedLaws.{lookup-noted, lookup-absent}
use Rattle.tree_map.proofs.Noting.{IsNoted-append, IsNoted-left, IsNoted-right, find-noted, find-absent}
use Rattle.tree_map.proofs.notes.Memo.find.Goals as goal

-- what the tree has is noted
pub returns-in-Some-clause-noted : goal.returns-in-Some-clause-noted
returns-in-Some-clause-noted g c =
    let key = c.args.key in
    let es = c.self.inside.many.entries in
    subst (λ l. IsNoted l key c.in-Some.value) c.self.view_is
    (IsNoted-left es c.self.inside.few.items key c.in-Some.value
    (lookup-noted (eq_by_cmp g.K.Ord.cmp) (λ x y h. g.met.K.Key.exact x y (g.met.K.Ord.matches_eq x y ∙ h)) (eq_by_cmp_equiv g.met.K.Ord.total).refl key es
    c.in-Some.value
    (sym (c.in-Some.ensures ∙ c.get.ensures.value))))

-- what one of a few pairs has is noted
pub returns-in-Some-seek-clause-noted : goal.returns-in-Some-seek-clause-noted
returns-in-Some-seek-clause-noted g c =
    let key = c.args.key in
    let fs = c.self.inside.few.items in
    let value = c.in-Some-seek.pair.now.1 in
    let eq = g.K.PartialEq.eq in
    subst (λ l. IsNoted l key value) c.self.view_is
    (IsNoted-right c.self.inside.many.entries fs key value
    (find-noted eq g.met.K.Key.exact (λ x. g.met.K.Ord.matches_eq x x ∙ (eq_by_cmp_equiv g.met.K.Ord.total).refl x) key fs c.in-Some-seek.pair.now
    (c.in-Some-seek.ensures ∙ ap (find (λ e. eq key e.0)) c.deref.ensures.value)))

-- where neither has the key, nothing is noted for it
pub returns-in-None-seek-clause-absent : goal.returns-in-None-seek-clause-absent
returns-in-None-seek-clause-absent g c v n =
    let key = c.args.key in
    let es = c.self.inside.many.entries in
    let fs = c.self.inside.few.items in
    let eq = g.K.PartialEq.eq in
    let refl_cmp = (eq_by_cmp_equiv g.met.K.Ord.total).refl in
    ⊎_elim
    (lookup-absent (eq_by_cmp g.K.Ord.cmp) (λ x y h. g.met.K.Key.exact x y (g.met.K.Ord.matches_eq x y ∙ h)) refl_cmp key es
    (sym (c.in-None.ensures ∙ c.get.ensures.value)) v)
    (find-absent eq g.met.K.Key.exact (λ x. g.met.K.Ord.matches_eq x x ∙ refl_cmp x) key fs
    (c.in-None-seek.ensures ∙ ap (find (λ e. eq key e.0)) c.deref.ensures.value) v)
    (IsNoted-append es fs key v (subst (λ l. IsNoted l key v) (sym c.self.view_is) n))
