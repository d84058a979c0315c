use Rattle.std.proofs.Common.{sym, subst}
use Rattle.hol_spec.specs.Terms.{IsTerm as IsTypedTerm}
use Rattle.stack_machine.proofs.Fitting.{application_fails, application_within}
use Rattle.stack_machine.proofs.Passing.{IfErr-map, IfOk-map, OnOk-IfOk, both}
use Rattle.stack_machine.proofs.Stores.{IsStore-Grows, Grows-Grows, run-Grows}
use Rattle.stack_machine.proofs.store.Store.application.Goals as goal

pub invariant_of-self : goal.invariant_of-self
invariant_of-self c = IsStore-Grows c.app.ensures.grows c.self.invariant

pub returns-clause-grows : goal.returns-clause-grows
returns-clause-grows c = rw (← c.self.view_is) (Grows-Grows c.app.ensures.grows c.self.invariant)

pub returns-clause-run : goal.returns-clause-run
returns-clause-run c = rw (← c.self.view_is) (run-Grows c.app.ensures.grows c.self.invariant)

pub returns-clause-known : goal.returns-clause-known
returns-clause-known c = IfOk-map c.app.result _ _ (both c.app.result _ _ c.app.ensures.made c.app.ensures.typed)
    (λ id h. record { known = h.0.known; typed = subst IsTypedTerm (sym h.0.is) h.1 })

pub returns-clause-made : goal.returns-clause-made
returns-clause-made c = rw (← c.self.view_is) (IfOk-map c.app.result _ _ c.app.ensures.made (λ id h. h.is))

pub returns-clause-fits : goal.returns-clause-fits
returns-clause-fits c = rw (← c.self.view_is)
    (OnOk-IfOk c.app.result _ _ (both c.app.result _ _ c.app.ensures.typed c.app.ensures.within) (λ id h. application_within _ h.0 h.1))

pub returns-clause-refused : goal.returns-clause-refused
returns-clause-refused c = rw (← c.self.view_is) (IfErr-map c.app.result _ _ c.app.ensures.refusal (λ fault h. application_fails fault _ h))
