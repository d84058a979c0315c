use Rattle.std.proofs.Common.{◌≡◌, ap, subst, ◌∙◌, refl, [], ◌∷◌, drop, slice_set, arith}
use Rattle.common.specs.declared.faults.Fault.TheVariants.{Refused}
use Rattle.common.specs.declared.faults.Kind.TheVariants.{EmptyList}
use Rattle.article_spec.specs.State as state
use Rattle.article_spec.specs.Operands.{head_and_tail}
use Rattle.stack_machine.specs.Stored.{IsListKnown, list_view}
use Rattle.stack_machine.proofs.Turned.{set-top}
use Rattle.stack_machine.specs.declared.object.Object.TheVariants as object
use Rattle.stack_machine.specs.StoredLaws.{Grows-refl}
use Rattle.stack_machine.proofs.Obeyed.{hdTl-none, first_fails, next, stopped, placed}
use Rattle.stack_machine.proofs.commands.head_and_tail.Goals as goal

pub returns-in_err-list : goal.returns-in_err-list
returns-in_err-list c = stopped _ _ c.from_residual.ensures.1 c.requires (λ s. first_fails _ _ _ (c.in_err-list.ensures c.args.store.now).refused)

pub cell-cell-requires : goal.cell-cell-requires
cell-cell-requires c = subst (IsListKnown c.args.store.now) c.in-Cell.is ((c.in_ok-list.ensures c.args.store.now).known c.requires)

pub returns-in_err-push : goal.returns-in_err-push
returns-in_err-push c = rw c.in_err-push.ensures.unchanged (stopped _ _ c.from_residual-in_err-push.ensures.1 c.requires (λ s. tt))

pub returns-in_default : goal.returns-in_default
returns-in_default c = stopped _ (Refused EmptyList) refl c.requires
    (λ s. hdTl-none _ _ _ (c.in_ok-list.ensures c.args.store.now).taken (ap (list_view c.args.store.now) c.in_default.is))

pub set-requires : goal.set-requires
set-requires c = let h = (c.in_ok-list.ensures c.args.store.now).there in rw c.in_ok-push.ensures.pushed (omega (arith, h))

pub returns : goal.returns
returns c =
    let pushed : c.set.new.self ≡ object.List c.cell-cell.result.tail ∷ c.cell-cell.result.head ∷ drop 1 c.args.stack.now =
    c.set.ensures ∙ ap (λ xs. slice_set xs 1 c.cell-cell.result.head) c.in_ok-push.ensures.pushed
    ∙ ap (λ xs. object.List c.cell-cell.result.tail ∷ xs) (set-top c.args.stack.now c.cell-cell.result.head (c.in_ok-list.ensures c.args.store.now).there)
    in
    placed 1 (object.List c.cell-cell.result.tail ∷ c.cell-cell.result.head ∷ []) (state.Object.list _ ∷ _ ∷ []) _ c.requires (Grows-refl _) pushed
    (c.cell-cell.ensures.tail, (c.cell-cell.ensures.head, tt)) refl refl
    (λ s. next _ _ _ _ (c.in_ok-list.ensures c.args.store.now).taken
    (next _ _ _ _ (ap head_and_tail (ap (list_view c.args.store.now) c.in-Cell.is ∙ c.cell-cell.ensures.is)) refl))
