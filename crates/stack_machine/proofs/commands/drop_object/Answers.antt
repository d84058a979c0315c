use Rattle.std.proofs.Common.{refl, []}
use Rattle.stack_machine.specs.StoredLaws.{Grows-refl}
use Rattle.stack_machine.proofs.Obeyed.{first_fails, next, stopped, placed}
use Rattle.stack_machine.proofs.commands.drop_object.Goals as goal

pub returns-in_err-_object : goal.returns-in_err-_object
returns-in_err-_object c = stopped _ _ c.from_residual.ensures.1 c.requires (λ s. first_fails _ _ _ (c.in_err-_object.ensures c.args.store.now).refused)

pub returns : goal.returns
returns c = placed 1 [] [] _ c.requires (Grows-refl _) c.drop_top.ensures tt refl refl
    (λ s. next _ _ _ _ (c.in_ok-_object.ensures c.args.store.now).taken (refl))
