use Rattle.stack_machine.proofs.Passing.{IfOk-map, both}
use Rattle.stack_machine.proofs.Stores.{IsStore-more, Grows-more, more-taken, run-taken, run-untaken}
use Rattle.stack_machine.proofs.store.Store.constant_term.Goals as goal

pub invariant_of-self : goal.invariant_of-self
invariant_of-self c = IsStore-more
    (more-taken c.make_constant.result c.self.inside.proof c.make_constant.new.proof c.make_constant.ensures.keeps _ c.make_constant.ensures.takes
    c.make_constant.ensures.unchanged) c.self.invariant

pub returns-clause-grows : goal.returns-clause-grows
returns-clause-grows c = rw (← c.self.view_is)
    (Grows-more (more-taken c.make_constant.result c.self.inside.proof c.make_constant.new.proof c.make_constant.ensures.keeps _ c.make_constant.ensures.takes
    c.make_constant.ensures.unchanged) c.self.invariant)

pub returns-clause-fits : goal.returns-clause-fits
returns-clause-fits c = rw (← c.self.view_is, ← c.name_in-name.ensures) c.make_constant.ensures.fits

pub returns-clause-refused : goal.returns-clause-refused
returns-clause-refused c = rw (← c.self.view_is, ← c.name_in-name.ensures) c.make_constant.ensures.refused

pub returns-clause-takes : goal.returns-clause-takes
returns-clause-takes c = rw (← c.self.view_is, ← c.name_in-name.ensures)
    (run-taken c.make_constant.result c.self.inside.proof c.make_constant.new.proof c.make_constant.ensures.keeps _ c.make_constant.ensures.takes
    c.make_constant.ensures.unchanged c.self.inside.assumptions c.self.inside.exports c.self.inside.pool)

pub returns-clause-unchanged : goal.returns-clause-unchanged
returns-clause-unchanged c = rw (← c.self.view_is)
    (run-untaken c.make_constant.result c.self.inside.proof c.make_constant.new.proof c.make_constant.ensures.keeps _ c.make_constant.ensures.takes
    c.make_constant.ensures.unchanged c.self.inside.assumptions c.self.inside.exports c.self.inside.pool)

pub returns-clause-known : goal.returns-clause-known
returns-clause-known c = IfOk-map c.make_constant.result _ _ (both c.make_constant.result _ _ c.make_constant.ensures.known c.make_constant.ensures.typed)
    (λ id h. record { known = h.0; typed = h.1 })

pub returns-clause-made : goal.returns-clause-made
returns-clause-made c = rw (← c.self.view_is, ← c.name_in-name.ensures) c.make_constant.ensures.made
