use Rattle.lp_term.specs.Indexed.{kept_in}
use Rattle.lp_term.proofs.Indexing.{IsIndexed-take}
use Rattle.lp_term.proofs.shapes.Shapes.truncate.Goals as goal

pub invariant_of-self : goal.invariant_of-self
invariant_of-self c = rw (c.truncate.ensures.items, c.truncate-2.ensures.items)
    (IsIndexed-take c.args.len c.self.inside.shapes.items c.self.inside.children.items (kept_in c.self.inside.others) (kept_in c.forget.new.others)
    c.self.invariant c.forget.ensures.lower_stay)
