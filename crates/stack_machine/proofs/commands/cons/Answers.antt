use Rattle.std.proofs.Common.{ap, refl, [], ◌∷◌}
use Rattle.article_spec.specs.State as state
use Rattle.stack_machine.specs.declared.object.Object.TheVariants as object
use Rattle.stack_machine.proofs.Obeyed.{first_fails, next_fails, next, stopped, failed, placed}
use Rattle.stack_machine.proofs.commands.cons.Goals as goal

pub returns-in_err-tail : goal.returns-in_err-tail
returns-in_err-tail c = stopped _ _ c.from_residual.ensures.1 c.requires (λ s. first_fails _ _ _ (c.in_err-tail.ensures c.args.store.now).refused)

pub returns-in_err-head : goal.returns-in_err-head
returns-in_err-head c = stopped _ _ c.from_residual-in_err-head.ensures.1 c.requires
    (λ s. next_fails _ _ _ _ (c.in_ok-tail.ensures c.args.store.now).taken (first_fails _ _ _ (c.in_err-head.ensures c.args.store.now).refused))

pub cons-requires-clause-head : goal.cons-requires-clause-head
cons-requires-clause-head c = (c.in_ok-head.ensures c.args.store.now).known c.requires

pub cons-requires-clause-tail : goal.cons-requires-clause-tail
cons-requires-clause-tail c = (c.in_ok-tail.ensures c.args.store.now).known c.requires

pub returns-in_err-list : goal.returns-in_err-list
returns-in_err-list c = failed _ _ c.from_residual-in_err-list.ensures.1 c.requires c.cons.ensures.grows c.cons.ensures.run (λ s. tt)

pub put-requires-clause-there : goal.put-requires-clause-there
put-requires-clause-there c = (c.in_ok-head.ensures c.args.store.now).there

pub returns : goal.returns
returns c = placed 2 (object.List c.in_ok-list.list ∷ []) (state.Object.list (state.Objects.more _ _) ∷ []) _ c.requires c.cons.ensures.grows c.put.ensures
    (c.in_ok-list.ensures.known, tt) (ap (λ x. state.Object.list x ∷ []) c.in_ok-list.ensures.made) c.cons.ensures.run
    (λ s. next _ _ _ _ (c.in_ok-tail.ensures c.args.store.now).taken (next _ _ _ _ (c.in_ok-head.ensures c.args.store.now).taken (refl)))
