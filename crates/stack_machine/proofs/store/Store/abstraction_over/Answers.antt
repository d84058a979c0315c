use Rattle.std.proofs.Common.{sym, subst}
use Rattle.hol_spec.specs.Terms.{IsTerm as IsTypedTerm}
use Rattle.hol_spec.specs.Rules.{abstraction}
use Rattle.hol_term.specs.Tables.{term_at, type_at}
use Rattle.stack_machine.proofs.Fitting.{abstraction_typed, term_fails, term_within}
use Rattle.stack_machine.proofs.Passing.{IfErr-map, IfOk-map, OnOk-IfOk}
use Rattle.stack_machine.proofs.Stores.{IsStore-Grows, Grows-Grows, run-Grows}
use Rattle.stack_machine.proofs.store.Store.abstraction_over.Goals as goal

pub invariant_of-self : goal.invariant_of-self
invariant_of-self c = IsStore-Grows c.abs.ensures.grows c.self.invariant

pub returns-clause-grows : goal.returns-clause-grows
returns-clause-grows c = rw (← c.self.view_is) (Grows-Grows c.abs.ensures.grows c.self.invariant)

pub returns-clause-run : goal.returns-clause-run
returns-clause-run c = rw (← c.self.view_is) (run-Grows c.abs.ensures.grows c.self.invariant)

pub returns-clause-known : goal.returns-clause-known
returns-clause-known c = IfOk-map c.abs.result _ _ c.abs.ensures.made (λ id h. record {
  known = h.known;
  typed = subst IsTypedTerm (sym h.is)
      (abstraction_typed (c.args.variable.now.name, type_at c.self.inside.proof.trees c.args.variable.now.ty.0)
      (term_at c.self.inside.proof.trees c.args.body.0) (subst (λ m. IsTypedTerm (term_at m.trees c.args.body.0)) (sym c.self.view_is) c.requires.body.typed));
})

pub returns-clause-made : goal.returns-clause-made
returns-clause-made c = rw (← c.self.view_is) (IfOk-map c.abs.result _ _ c.abs.ensures.made (λ id h. h.is))

pub returns-clause-fits : goal.returns-clause-fits
returns-clause-fits c = rw (← c.self.view_is) (OnOk-IfOk c.abs.result _ _ c.abs.ensures.within (λ id h. term_within _ h))

pub returns-clause-refused : goal.returns-clause-refused
returns-clause-refused c = rw (← c.self.view_is)
    (IfErr-map c.abs.result _ _ c.abs.ensures.refusal
    (λ fault h. term_fails fault
    (abstraction (c.args.variable.now.name, type_at c.self.inside.proof.trees c.args.variable.now.ty.0) (term_at c.self.inside.proof.trees c.args.body.0)) h))
