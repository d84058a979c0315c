use Rattle.std.proofs.Common.{ap, sym, subst, ◌∙◌, map}
use Rattle.hol_defs.specs.Indexes.{taken_of}
use Rattle.hol_defs.specs.Lists.{IsMarked}
use Rattle.hol_defs.proofs.ListEnds.{IsIndexed-cut, left}
use Rattle.hol_defs.proofs.Symbols.cut.Goals as goal

pub invariant_of-self : goal.invariant_of-self
invariant_of-self c =
    rw (c.truncate.ensures.items, c.cut.ensures) (
    IsIndexed-cut c.self.inside.taken.items c.requires.0 c.args.mark (subst (λ now. IsMarked c.requires.0 now c.args.mark) (sym c.self.view_is) c.requires.1)
    c.self.inside.inputs c.self.inside.generics c.self.inside.uses c.self.inside.names
    c.self.inside.arities c.self.invariant)

pub returns : goal.returns
returns c = λ before m.
    ap (map taken_of) c.truncate.ensures.items ∙ left c.self.inside.taken.items before c.args.mark
    (subst (λ now. IsMarked before now c.args.mark) (sym c.self.view_is) m)
