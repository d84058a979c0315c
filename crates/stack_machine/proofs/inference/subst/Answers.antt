use Rattle.std.proofs.Common.{subst, sym}
use Rattle.hol_type.specs.Tables.{pairs_at}
use Rattle.hol_term.specs.Substitutions.{term_pairs_at}
use Rattle.article_spec.specs.RuleSteps.{subst_step}
use Rattle.stack_machine.specs.Putting.{AreRemembered, IsReady}
use Rattle.stack_machine.specs.Shown.{shown}
use Rattle.stack_machine.proofs.Obeyed.{first_fails, stopped}
use Rattle.stack_machine.proofs.Inferred.{Concludes-IsStore, Concludes-more, rule-obeys, step-there}
use Rattle.stack_machine.proofs.PutLists.{lists-fail, subst-obeyed, unfit-fails}
use Rattle.stack_machine.proofs.PutAgain.{remembered-Grow}
use Rattle.stack_machine.proofs.Stores.{Grows-more}
use Rattle.stack_machine.proofs.inference.subst.Goals as goal

pub returns-in_err-one-clause-obeys : goal.returns-in_err-one-clause-obeys
returns-in_err-one-clause-obeys c = stopped _ _ c.from_residual.ensures.1 c.requires.stack
    (λ s. first_fails _ _ _ (c.in_err-one.ensures c.args.store.now).refused)

pub returns-in_err-lists-clause-obeys : goal.returns-in_err-lists-clause-obeys
returns-in_err-lists-clause-obeys c = stopped _ _ c.from_residual-in_err-lists.ensures.1 c.requires.stack
    (λ s. lists-fail (shown c.args.store.now c.args.stack.now s) _ _ (c.in_ok-one.ensures c.args.store.now).taken _ c.in_err-lists.ensures.refused)

pub put_by-requires-clause-lists : goal.put_by-requires-clause-lists
put_by-requires-clause-lists c = c.in_ok-lists.ensures.known c.requires.stack

pub returns-in_err-put-clause-obeys : goal.returns-in_err-put-clause-obeys
returns-in_err-put-clause-obeys c = stopped _ _ c.from_residual-in_err-put.ensures.1 c.requires.stack
    (λ s. unfit-fails (shown c.args.store.now c.args.stack.now s) _ _ (c.in_ok-one.ensures c.args.store.now).taken _ _ c.in_ok-lists.ensures.taken _
    c.in_err-put.ensures.refused)

pub subst_prepared-step-requires-clause-types : goal.subst_prepared-step-requires-clause-types
subst_prepared-step-requires-clause-types c = (subst (λ m. IsReady m.trees c.in_ok-put.put) (sym c.store.view_is) c.in_ok-put.ensures.put.ready).types

pub subst_prepared-step-requires-clause-terms : goal.subst_prepared-step-requires-clause-terms
subst_prepared-step-requires-clause-terms c = (subst (λ m. IsReady m.trees c.in_ok-put.put) (sym c.store.view_is) c.in_ok-put.ensures.put.ready).terms

pub subst_prepared-step-requires-clause-fits : goal.subst_prepared-step-requires-clause-fits
subst_prepared-step-requires-clause-fits c = (subst (λ m. IsReady m.trees c.in_ok-put.put) (sym c.store.view_is) c.in_ok-put.ensures.put.ready).fits

pub subst_prepared-step-requires-clause-one : goal.subst_prepared-step-requires-clause-one
subst_prepared-step-requires-clause-one c = step-there c.store.invariant c.store.view_is ((c.in_ok-one.ensures c.args.store.now).known c.requires.stack)

pub conclude-requires-clause-there : goal.conclude-requires-clause-there
conclude-requires-clause-there c = c.in_ok-lists.ensures.there

pub invariant_of-store : goal.invariant_of-store
invariant_of-store c = Concludes-IsStore c.subst_prepared-step.ensures c.store.invariant

pub returns-clause-obeys : goal.returns-clause-obeys
returns-clause-obeys c = rule-obeys c.store.invariant c.store.view_is 2
    (λ m. subst_step m.run.made (pairs_at m.trees.types c.in_ok-put.put.types.items) (term_pairs_at m.trees c.in_ok-put.put.terms.items) c.in_ok-one.one)
    c.subst_prepared-step.ensures c.conclude.ensures c.requires.stack
    (λ s. subst-obeyed (shown c.args.store.now c.args.stack.now s) _ _ (c.in_ok-one.ensures c.args.store.now).taken _ _ c.in_ok-lists.ensures.taken _ _
    c.in_ok-put.ensures.put.pairs)

pub returns-clause-remembered : goal.returns-clause-remembered
returns-clause-remembered c = remembered-Grow (Grows-more (Concludes-more c.subst_prepared-step.ensures) c.store.invariant) _
    (subst (λ m. AreRemembered m c.put_by.new.remembered) (sym c.store.view_is) c.put_by.ensures.remembered)
