use Rattle.std.proofs.Common.{◌≡◌, subst, Ok, IfOk, OnOk, IfErr}
use Rattle.hol_spec.specs.Types.{operator, types_of}
use Rattle.hol_type.specs.Tables.{types_at}
use Rattle.hol_term.specs.Tables.{type_at}
use Rattle.article_spec.specs.Results.{Fails}
use Rattle.stack_machine.specs.Refusals.{operator_fits}
use Rattle.stack_machine.specs.Stored.{name_at, taken_symbols}
use Rattle.stack_machine.proofs.Stores.{IsStore-more, Grows-more, more-taken, run-taken, run-untaken}
use Rattle.stack_machine.proofs.store.Store.operator_type.Goals as goal

pub invariant_of-self : goal.invariant_of-self
invariant_of-self c = IsStore-more
    (more-taken c.make_operator.result c.self.inside.proof c.make_operator.new.proof c.make_operator.ensures.keeps _ c.make_operator.ensures.takes
    c.make_operator.ensures.unchanged) c.self.invariant

pub returns-clause-grows : goal.returns-clause-grows
returns-clause-grows c = rw (← c.self.view_is)
    (Grows-more (more-taken c.make_operator.result c.self.inside.proof c.make_operator.new.proof c.make_operator.ensures.keeps _ c.make_operator.ensures.takes
    c.make_operator.ensures.unchanged) c.self.invariant)

pub returns-clause-fits : goal.returns-clause-fits
returns-clause-fits c = subst
    (λ m. OnOk c.make_operator.result (operator_fits (taken_symbols m) (name_at m c.args.name.0) (types_at m.trees.types c.args.args.now) ≡ Ok tt))
    c.self.view_is (rw (← c.name_in-name.ensures) c.make_operator.ensures.fits)

pub returns-clause-refused : goal.returns-clause-refused
returns-clause-refused c = subst
    (λ m. IfErr c.make_operator.result
    (λ fault. Fails fault (operator_fits (taken_symbols m) (name_at m c.args.name.0) (types_at m.trees.types c.args.args.now)))) c.self.view_is
    (rw (← c.name_in-name.ensures) c.make_operator.ensures.refused)

pub returns-clause-takes : goal.returns-clause-takes
returns-clause-takes c = rw (← c.self.view_is, ← c.name_in-name.ensures)
    (run-taken c.make_operator.result c.self.inside.proof c.make_operator.new.proof c.make_operator.ensures.keeps _ c.make_operator.ensures.takes
    c.make_operator.ensures.unchanged c.self.inside.assumptions c.self.inside.exports c.self.inside.pool)

pub returns-clause-unchanged : goal.returns-clause-unchanged
returns-clause-unchanged c = rw (← c.self.view_is)
    (run-untaken c.make_operator.result c.self.inside.proof c.make_operator.new.proof c.make_operator.ensures.keeps _ c.make_operator.ensures.takes
    c.make_operator.ensures.unchanged c.self.inside.assumptions c.self.inside.exports c.self.inside.pool)

pub returns-clause-known : goal.returns-clause-known
returns-clause-known c = c.make_operator.ensures.known

pub returns-clause-made : goal.returns-clause-made
returns-clause-made c = subst
    (λ m. IfOk c.make_operator.result (λ id. type_at c.make_operator.new.proof.trees id.0
    ≡ operator (name_at m c.args.name.0) (types_of (types_at m.trees.types c.args.args.now)))) c.self.view_is
    (rw (← c.name_in-name.ensures) c.make_operator.ensures.made)
