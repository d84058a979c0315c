use Rattle.std.proofs.Common.{[], ap, ◌∙◌}
use Rattle.stack_machine.specs.Stored.{IsFront}
use Rattle.stack_machine.specs.StoredLaws.{Grows-refl}
use Rattle.stack_machine.proofs.Pushed.{pushed-at, pushed-within}
use Rattle.stack_machine.proofs.Stores.{IsMore-refl, IsStore-run, Grows-run}
use Rattle.stack_machine.proofs.store.Store.keep_name.Goals as goal

-- a name comes last
longer : (c : goal.In_ok-push) → IsFront c.self.inside.names.items c.push.new.self.items
longer c = record { more = _; is = c.in_ok-push.ensures.items }

pub invariant_of-self-2 : goal.invariant_of-self-2
invariant_of-self-2 c = IsStore-run (IsMore-refl _) c.self.invariant (longer c) c.self.invariant.run_known c.self.invariant.assumed c.self.invariant.exported

pub returns-clause-grows : goal.returns-clause-grows
returns-clause-grows c = rw (← c.self.view_is)
    (Grows-run (IsMore-refl _) c.self.invariant c.self.inside.assumptions c.self.inside.exports c.self.inside.pool (longer c))

pub returns-in_err-clone-clause-grows : goal.returns-in_err-clone-clause-grows
returns-in_err-clone-clause-grows c = rw (← c.self.view_is) (Grows-refl _)

pub returns-in_err-clone-clause-run : goal.returns-in_err-clone-clause-run
returns-in_err-clone-clause-run c = ap (λ m. m.run) c.self.view_is

pub invariant_of-self : goal.invariant_of-self
invariant_of-self c = c.self.invariant

pub returns-in_err-push-clause-grows : goal.returns-in_err-push-clause-grows
returns-in_err-push-clause-grows c = rw (← c.self.view_is, c.in_err-push.ensures.items) (Grows-refl _)

pub returns-in_err-push-clause-run : goal.returns-in_err-push-clause-run
returns-in_err-push-clause-run c = ap (λ m. m.run) c.self.view_is

pub returns-clause-known : goal.returns-clause-known
returns-clause-known c = pushed-within _ _ _ _ c.in_ok-push.ensures.items (c.len.ensures ∙ c.self.inside.names.ok.0)

pub returns-clause-kept : goal.returns-clause-kept
returns-clause-kept c = pushed-at _ _ _ _ c.in_ok-push.ensures.items (c.len.ensures ∙ c.self.inside.names.ok.0) [] ∙ c.in_ok-clone.ensures.cases

pub returns-clause-run : goal.returns-clause-run
returns-clause-run c = ap (λ m. m.run) c.self.view_is
