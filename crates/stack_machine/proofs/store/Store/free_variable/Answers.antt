use Rattle.std.proofs.Common.{refl, sym, subst}
use Rattle.hol_spec.specs.Terms.{free, IsTerm as IsTypedTerm}
use Rattle.hol_term.specs.Tables.{type_at}
use Rattle.stack_machine.proofs.Fitting.{term_fails, term_within}
use Rattle.stack_machine.proofs.Passing.{IfErr-map, IfOk-map, OnOk-IfOk}
use Rattle.stack_machine.proofs.Stores.{IsStore-Grows, Grows-Grows, run-Grows}
use Rattle.stack_machine.proofs.store.Store.free_variable.Goals as goal

pub invariant_of-self : goal.invariant_of-self
invariant_of-self c = IsStore-Grows c.free.ensures.grows c.self.invariant

pub returns-clause-grows : goal.returns-clause-grows
returns-clause-grows c = rw (← c.self.view_is) (Grows-Grows c.free.ensures.grows c.self.invariant)

pub returns-clause-run : goal.returns-clause-run
returns-clause-run c = rw (← c.self.view_is) (run-Grows c.free.ensures.grows c.self.invariant)

pub returns-clause-known : goal.returns-clause-known
returns-clause-known c = IfOk-map c.free.result _ _ c.free.ensures.made (λ id h. record { known = h.known; typed = subst IsTypedTerm (sym h.is) refl })

pub returns-clause-made : goal.returns-clause-made
returns-clause-made c = rw (← c.self.view_is, ← c.name_in-name.ensures) (IfOk-map c.free.result _ _ c.free.ensures.made (λ id h. h.is))

pub returns-clause-fits : goal.returns-clause-fits
returns-clause-fits c = rw (← c.self.view_is) (OnOk-IfOk c.free.result _ _ c.free.ensures.within (λ id h. term_within _ h))

pub returns-clause-refused : goal.returns-clause-refused
returns-clause-refused c = rw (← c.self.view_is)
    (IfErr-map c.free.result _ _ c.free.ensures.refusal
    (λ fault h. term_fails fault (free c.name_in-name.result.now (type_at c.self.inside.proof.trees c.args.ty.0)) h))
