use Rattle.std.proofs.Common.{refl, [], ◌∷◌}
use Rattle.article_spec.specs.State as state
use Rattle.stack_machine.specs.declared.object.Object.TheVariants as object
use Rattle.stack_machine.specs.declared.object.List.TheVariants.{Empty}
use Rattle.stack_machine.specs.StoredLaws.{Grows-refl}
use Rattle.stack_machine.proofs.Obeyed.{stopped, placed}
use Rattle.stack_machine.proofs.commands.nil.Goals as goal

pub returns-in_err-push : goal.returns-in_err-push
returns-in_err-push c = rw c.in_err-push.ensures.unchanged (stopped _ _ c.from_residual.ensures.1 c.requires (λ s. tt))

pub returns : goal.returns
returns c = placed 0 (object.List Empty ∷ []) (state.Object.list state.Objects.none ∷ []) _ c.requires (Grows-refl _) c.in_ok-push.ensures.pushed (tt, tt) refl
    refl (λ s. refl)
