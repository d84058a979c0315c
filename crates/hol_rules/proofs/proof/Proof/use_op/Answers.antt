use Rattle.hol_rules.proofs.Answering.{IfErr-more, OnErr-both, OnErr-more, OnOk-both, OnOk-more, OnOk-OnErr}
use Rattle.hol_rules.proofs.Taken.{IsKept-used_operator, made_view-used_operator}
use Rattle.std.proofs.Common.{refl, sym, subst}
use Rattle.hol_defs.specs.Refusals.{FitsArity, RefusesOperator}
use Rattle.hol_spec.specs.Symbols.{operator_arity}
use Rattle.hol_rules.proofs.proof.Proof.use_op.Goals as goal

pub invariant_of-self : goal.invariant_of-self
invariant_of-self c =
    let s = c.self.inside in
    let trees = s.terms in
    let r = c.use_operator.result in
    let e = c.use_operator.ensures in
    OnOk-OnErr r (OnOk-both _ _ r e.takes e.noted) (OnErr-both _ _ r e.untaken e.unnoted)
    (λ p. rw (p.1 trees)
    (IsKept-used_operator s.terms s.symbols s.steps.items s.made.items c.self.invariant c.use_operator.new.symbols c.args.name.now c.args.arity (p.0 trees)
    (e.known trees c.self.invariant.symbols_known)))
    (λ q. rw (q.0, q.1) c.self.invariant)

pub returns-clause-takes : goal.returns-clause-takes
returns-clause-takes c =
    let s = c.self.inside in
    let trees = s.terms in
    let r = c.use_operator.result in
    let e = c.use_operator.ensures in
    OnOk-more r (OnOk-both _ _ r e.takes e.noted)
    (λ p. rw (← c.self.view_is, p.1 trees)
    (made_view-used_operator s.terms s.symbols s.steps.items s.made.items c.self.invariant c.use_operator.new.symbols c.args.name.now c.args.arity
    (p.0 trees) (e.known trees c.self.invariant.symbols_known)))

pub returns-clause-fits : goal.returns-clause-fits
returns-clause-fits c =
    let s = c.self.inside in
    rw (← c.self.view_is)
    (OnOk-more c.use_operator.result c.use_operator.ensures.fits
    (λ f. subst (λ ss. FitsArity (operator_arity ss c.args.name.now) c.args.arity) (sym c.self.invariant.symbols_taken) (f s.terms)))

pub returns-clause-refusal : goal.returns-clause-refusal
returns-clause-refusal c =
    let s = c.self.inside in
    rw (← c.self.view_is)
    (IfErr-more c.use_operator.result c.use_operator.ensures.refusal
    (λ fault f. subst (λ ss. RefusesOperator fault (operator_arity ss c.args.name.now) c.args.arity) (sym c.self.invariant.symbols_taken) (f s.terms)))

pub returns-clause-unchanged : goal.returns-clause-unchanged
returns-clause-unchanged c =
    let r = c.use_operator.result in
    let e = c.use_operator.ensures in
    OnErr-more r (OnErr-both _ _ r e.untaken e.unnoted) (λ q. rw (← c.self.view_is, q.0, q.1) refl)
