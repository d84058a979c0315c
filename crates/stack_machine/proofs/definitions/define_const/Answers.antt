use Rattle.std.proofs.Common.{ap, [], ◌∷◌}
use Rattle.article_spec.specs.State as state
use Rattle.stack_machine.specs.declared.object.Object.TheVariants as object
use Rattle.stack_machine.specs.Shown.{shown}
use Rattle.stack_machine.specs.Stored.{name_at}
use Rattle.stack_machine.proofs.Obeyed.{first_fails, next_fails, stopped}
use Rattle.stack_machine.proofs.Defined.{defining-fails, defining-obeys, name-Grows}
use Rattle.stack_machine.proofs.DefiningRules.{obey-DefineConst}
use Rattle.stack_machine.proofs.definitions.define_const.Goals as goal

pub returns-in_err-term : goal.returns-in_err-term
returns-in_err-term c = stopped _ _ c.from_residual.ensures.1 c.requires (λ s. first_fails _ _ _ (c.in_err-term.ensures c.args.store.now).refused)

pub returns-in_err-name : goal.returns-in_err-name
returns-in_err-name c = stopped _ _ c.from_residual-in_err-name.ensures.1 c.requires
    (λ s. next_fails _ _ _ _ (c.in_ok-term.ensures c.args.store.now).taken (first_fails _ _ _ (c.in_err-name.ensures c.args.store.now).refused))

pub define_const-requires-clause-name : goal.define_const-requires-clause-name
define_const-requires-clause-name c = (c.in_ok-name.ensures c.args.store.now).known c.requires

pub define_const-requires-clause-term : goal.define_const-requires-clause-term
define_const-requires-clause-term c = (c.in_ok-term.ensures c.args.store.now).known c.requires

pub returns-in_err-step : goal.returns-in_err-step
returns-in_err-step c =
    defining-fails 2 (state.Object.constant (name_at c.args.store.now c.in_ok-name.name.0) ∷ [])
    (λ s. obey-DefineConst (shown c.args.store.now c.args.stack.now s) _ _ _ _ (c.in_ok-term.ensures c.args.store.now).taken
    (c.in_ok-name.ensures c.args.store.now).taken)
    c.requires _ _ c.from_residual-in_err-step.ensures.1 c.in_err-step.ensures

pub put_two-requires-clause-there : goal.put_two-requires-clause-there
put_two-requires-clause-there c = (c.in_ok-name.ensures c.args.store.now).there

pub returns : goal.returns
returns c =
    let known = name-Grows c.in_ok-step.ensures.grows c.in_ok-name.name ((c.in_ok-name.ensures c.args.store.now).known c.requires) in
    defining-obeys 2 (state.Object.constant (name_at c.args.store.now c.in_ok-name.name.0) ∷ [])
    (λ s. obey-DefineConst (shown c.args.store.now c.args.stack.now s) _ _ _ _ (c.in_ok-term.ensures c.args.store.now).taken
    (c.in_ok-name.ensures c.args.store.now).taken)
    c.requires (object.Constant c.in_ok-name.name ∷ []) c.in_ok-step.ensures c.put_two.ensures (known.0, tt) (ap (λ n. state.Object.constant n ∷ []) known.1)
