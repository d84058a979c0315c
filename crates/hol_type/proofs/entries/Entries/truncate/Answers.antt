use Rattle.hol_type.specs.Numbered.{number_in}
use Rattle.hol_type.proofs.Numbering.{AreNumbered-take}
use Rattle.hol_type.proofs.entries.Entries.truncate.Goals as goal

pub forget-requires : goal.forget-requires
forget-requires c = rw c.deref.ensures.value c.self.invariant

pub invariant_of-self : goal.invariant_of-self
invariant_of-self c = rw c.truncate.ensures.items
    (AreNumbered-take c.args.len c.self.inside.entries.items (number_in c.self.inside.numbers) (number_in c.forget.new.numbers) c.self.invariant
    c.forget.ensures.stay c.forget.ensures.go)
