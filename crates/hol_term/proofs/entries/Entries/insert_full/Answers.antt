use Rattle.std.proofs.Common.{◌≡◌, ◌<◌, ℕ, Some, length, refl, sym, subst}
use Rattle.hol_term.specs.Indexed.{greater_part, kept_in}
use Rattle.hol_term.proofs.Indexing.{indexed_with, indexed_apart, indexed_same, lacks_node, Some-nodes_of}
use Rattle.hol_term.proofs.entries.Entries.insert_full.Goals as goal

pub invariant_of-self-in-With : goal.invariant_of-self-in-With
invariant_of-self-in-With c =
    let es = c.self.inside.entries.items in
    let f = rw (c.deref.ensures.value, c.deref-2.ensures.value) at c.in-With.ensures in
    let e = c.in_ok-number-in-With.ensures in
    let below : (p : ℕ) → greater_part c.args.entry.node ≡ Some p → p < length es = λ p g. subst (λ l. p < length l) (sym c.self.view_is) (c.requires p g) in
    indexed_with es c.put_with.new.entries.items c.self.inside.children.items c.put_with.new.children.items (kept_in c.self.inside.others) c.args.entry
    c.in-With.part c.self.invariant below f e.entries e.children

pub invariant_of-self-in_err-number-in-Apart : goal.invariant_of-self-in_err-number-in-Apart
invariant_of-self-in_err-number-in-Apart c =
    let e = c.in_err-number-in-Apart.ensures.unchanged in
    indexed_same c.self.inside.entries.items c.put_apart.new.entries.items c.self.inside.children.items c.put_apart.new.children.items c.self.inside.others
    c.put_apart.new.others c.self.invariant e.0 e.1 e.2

pub invariant_of-self-in-Apart : goal.invariant_of-self-in-Apart
invariant_of-self-in-Apart c =
    let es = c.self.inside.entries.items in
    let f = rw (c.deref.ensures.value, c.deref-2.ensures.value) at c.in-Apart.ensures in
    let e = c.in_ok-number-in-Apart.ensures in
    let below : (p : ℕ) → greater_part c.args.entry.node ≡ Some p → p < length es = λ p g. subst (λ l. p < length l) (sym c.self.view_is) (c.requires p g) in
    indexed_apart es c.put_apart.new.entries.items c.self.inside.children.items c.put_apart.new.children.items (kept_in c.self.inside.others)
    (kept_in c.put_apart.new.others) c.args.entry c.self.invariant below f e.entries e.children e.others.0

pub returns-in-At-clause-inserted : goal.returns-in-At-clause-inserted
returns-in-At-clause-inserted c =
    let f = rw c.deref.ensures.value at c.in-At.ensures in
    rw (← c.self.view_is) (refl, Some-nodes_of c.self.inside.entries.items c.in-At.number c.args.entry.node f)

pub returns-in_ok-number-in-With-clause-inserted : goal.returns-in_ok-number-in-With-clause-inserted
returns-in_ok-number-in-With-clause-inserted c =
    let f = rw (c.deref.ensures.value, c.deref-2.ensures.value) at c.in-With.ensures in
    let e = c.in_ok-number-in-With.ensures in
    rw (← c.self.view_is) (e.entries, e.number, lacks_node c.self.inside.entries.items c.args.entry.node f.0)

pub returns-in_ok-number-in-Apart-clause-inserted : goal.returns-in_ok-number-in-Apart-clause-inserted
returns-in_ok-number-in-Apart-clause-inserted c =
    let f = rw (c.deref.ensures.value, c.deref-2.ensures.value) at c.in-Apart.ensures in
    let e = c.in_ok-number-in-Apart.ensures in
    rw (← c.self.view_is) (e.entries, e.number, lacks_node c.self.inside.entries.items c.args.entry.node f.0)
