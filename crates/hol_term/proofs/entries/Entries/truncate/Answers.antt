use Rattle.hol_term.specs.Indexed.{kept_in}
use Rattle.hol_term.proofs.Indexing.{indexed_take}
use Rattle.hol_term.proofs.entries.Entries.truncate.Goals as goal

pub forget-requires : goal.forget-requires
forget-requires c = rw c.deref.ensures.value c.self.invariant.told

pub invariant_of-self : goal.invariant_of-self
invariant_of-self c = rw (c.truncate.ensures.items, c.truncate-2.ensures.items)
    (indexed_take c.args.len c.self.inside.entries.items c.self.inside.children.items (kept_in c.self.inside.others) (kept_in c.forget.new.others)
    c.self.invariant c.forget.ensures.stay c.forget.ensures.go)
