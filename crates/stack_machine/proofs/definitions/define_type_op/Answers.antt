use Rattle.std.proofs.Common.{refl, [], ◌∷◌}
use Rattle.article_spec.specs.State as state
use Rattle.stack_machine.specs.declared.object.Object.TheVariants as object
use Rattle.hol_defs.specs.Symbols.{named}
use Rattle.article_spec.specs.RuleSteps.{type_laws}
use Rattle.article_spec.specs.Changes.{defining_type}
use Rattle.stack_machine.specs.Shown.{shown}
use Rattle.stack_machine.specs.Stored.{name_at}
use Rattle.stack_machine.proofs.Obeyed.{Obeys-In, first_fails, next_fails, stopped}
use Rattle.stack_machine.proofs.Defined.{defining_type-fails, defining_type-obeys, name-Grows}
use Rattle.stack_machine.proofs.DefiningRules.{obey-DefineTypeOp}
use Rattle.stack_machine.proofs.definitions.define_type_op.Goals as goal

pub returns-in_err-one : goal.returns-in_err-one
returns-in_err-one c = Obeys-In c.args.version _
    (stopped _ _ c.from_residual.ensures.1 c.requires (λ s. first_fails _ _ _ (c.in_err-one.ensures c.args.store.now).refused))

pub returns-in_err-names : goal.returns-in_err-names
returns-in_err-names c = Obeys-In c.args.version _
    (stopped _ _ c.from_residual-in_err-names.ensures.1 c.requires
    (λ s. next_fails _ _ _ _ (c.in_ok-one.ensures c.args.store.now).taken (first_fails _ _ _ c.in_err-names.ensures.refused)))

pub returns-in_err-rep : goal.returns-in_err-rep
returns-in_err-rep c = Obeys-In c.args.version _ (stopped _ _ c.from_residual-in_err-rep.ensures.1 c.requires
    (λ s. next_fails _ _ _ _ (c.in_ok-one.ensures c.args.store.now).taken
    (next_fails _ _ _ _ c.in_ok-names.ensures.taken (first_fails _ _ _ (c.in_err-rep.ensures c.args.store.now).refused))))

pub returns-in_err-abs : goal.returns-in_err-abs
returns-in_err-abs c = Obeys-In c.args.version _ (stopped _ _ c.from_residual-in_err-abs.ensures.1 c.requires
    (λ s. next_fails _ _ _ _ (c.in_ok-one.ensures c.args.store.now).taken
    (next_fails _ _ _ _ c.in_ok-names.ensures.taken (next_fails _ _ _ _ (c.in_ok-rep.ensures c.args.store.now).taken
    (first_fails _ _ _ (c.in_err-abs.ensures c.args.store.now).refused)))))

pub returns-in_err-op : goal.returns-in_err-op
returns-in_err-op c = Obeys-In c.args.version _ (stopped _ _ c.from_residual-in_err-op.ensures.1 c.requires
    (λ s. next_fails _ _ _ _ (c.in_ok-one.ensures c.args.store.now).taken
    (next_fails _ _ _ _ c.in_ok-names.ensures.taken (next_fails _ _ _ _ (c.in_ok-rep.ensures c.args.store.now).taken
    (next_fails _ _ _ _ (c.in_ok-abs.ensures c.args.store.now).taken (first_fails _ _ _ (c.in_err-op.ensures c.args.store.now).refused))))))

pub define_type_op-requires-clause-op : goal.define_type_op-requires-clause-op
define_type_op-requires-clause-op c = (c.in_ok-op.ensures c.args.store.now).known c.requires

pub define_type_op-requires-clause-abs : goal.define_type_op-requires-clause-abs
define_type_op-requires-clause-abs c = (c.in_ok-abs.ensures c.args.store.now).known c.requires

pub define_type_op-requires-clause-rep : goal.define_type_op-requires-clause-rep
define_type_op-requires-clause-rep c = (c.in_ok-rep.ensures c.args.store.now).known c.requires

pub define_type_op-requires-clause-one : goal.define_type_op-requires-clause-one
define_type_op-requires-clause-one c = (c.in_ok-one.ensures c.args.store.now).known c.requires

pub put_five-requires : goal.put_five-requires
put_five-requires c = (c.in_ok-op.ensures c.args.store.now).there

pub returns-in_err-first : goal.returns-in_err-first
returns-in_err-first c =
    let m = c.args.store.now in
    defining_type-fails {f =
    defining_type (type_laws c.args.version m.run.made
    (named (name_at m c.in_ok-op.op.0) (name_at m c.in_ok-abs.abs.0) (name_at m c.in_ok-rep.rep.0) c.in_ok-names.names.items) c.in_ok-one.one)} 5
    (state.Object.constant (name_at m c.in_ok-rep.rep.0) ∷ state.Object.constant (name_at m c.in_ok-abs.abs.0) ∷ state.Object.type_operator
    (name_at m c.in_ok-op.op.0) ∷ [])
    (λ s v. obey-DefineTypeOp (shown m c.args.stack.now s) _ _ _ _ _ _ _ _ _ _ (c.in_ok-one.ensures m).taken c.in_ok-names.ensures.taken
    (c.in_ok-rep.ensures m).taken (c.in_ok-abs.ensures m).taken (c.in_ok-op.ensures m).taken c.args.version v)
    c.requires _ _ c.from_residual-in_err-first.ensures.1 (rw c.deref.ensures.value at c.in_err-first.ensures)

pub returns : goal.returns
returns c =
    let m = c.args.store.now in
    let made = rw c.deref.ensures.value at c.in_ok-first.ensures in
    let rep = name-Grows made.grows c.in_ok-rep.rep ((c.in_ok-rep.ensures m).known c.requires) in
    let abs = name-Grows made.grows c.in_ok-abs.abs ((c.in_ok-abs.ensures m).known c.requires) in
    let op = name-Grows made.grows c.in_ok-op.op ((c.in_ok-op.ensures m).known c.requires) in
    defining_type-obeys {f =
    defining_type (type_laws c.args.version m.run.made
    (named (name_at m c.in_ok-op.op.0) (name_at m c.in_ok-abs.abs.0) (name_at m c.in_ok-rep.rep.0) c.in_ok-names.names.items) c.in_ok-one.one)} 5
    (state.Object.constant (name_at m c.in_ok-rep.rep.0) ∷ state.Object.constant (name_at m c.in_ok-abs.abs.0) ∷ state.Object.type_operator
    (name_at m c.in_ok-op.op.0) ∷ [])
    (λ s v. obey-DefineTypeOp (shown m c.args.stack.now s) _ _ _ _ _ _ _ _ _ _ (c.in_ok-one.ensures m).taken c.in_ok-names.ensures.taken
    (c.in_ok-rep.ensures m).taken (c.in_ok-abs.ensures m).taken (c.in_ok-op.ensures m).taken c.args.version v)
    c.requires (object.Constant c.in_ok-rep.rep ∷ object.Constant c.in_ok-abs.abs ∷ object.TypeOperator c.in_ok-op.op ∷ []) made c.put_five.ensures
    (rep.0, (abs.0, (op.0, tt))) (rw (rep.1, abs.1, op.1) refl)
