use Rattle.hol_rules.proofs.Answering.{OnErr-both, OnErr-more, OnOk-both, OnOk-more, OnOk-OnErr}
use Rattle.hol_rules.proofs.Taken.{IsKept-used_constant, made_view-used_constant}
use Rattle.std.proofs.Common.{sym, subst, OnOk, IfErr, refl}
use Rattle.hol_defs.specs.Refusals.{FitsGeneric, RefusesConstant}
use Rattle.hol_spec.specs.Symbols.{generic_type}
use Rattle.hol_term.specs.Tables.{type_at}
use Rattle.hol_rules.proofs.proof.Proof.use_const.Goals as goal

pub use_constant-requires-clause-known : goal.use_constant-requires-clause-known
use_constant-requires-clause-known c = c.self.invariant.symbols_known

pub use_constant-requires-clause-ty : goal.use_constant-requires-clause-ty
use_constant-requires-clause-ty c = rw (← c.self.view_is) at c.requires

pub invariant_of-self : goal.invariant_of-self
invariant_of-self c =
    let s = c.self.inside in
    let r = c.use_constant.result in
    let e = c.use_constant.ensures in
    OnOk-OnErr r (OnOk-both _ _ r e.takes e.noted) (OnErr-both _ _ r e.untaken e.unnoted)
    (λ p. rw (e.table, p.1)
    (IsKept-used_constant s.terms s.symbols s.steps.items s.made.items c.self.invariant c.use_constant.new.symbols c.args.name.now p.0 e.known))
    (λ q. rw (e.table, q.0, q.1) c.self.invariant)

pub returns-clause-takes : goal.returns-clause-takes
returns-clause-takes c =
    let s = c.self.inside in
    let r = c.use_constant.result in
    let e = c.use_constant.ensures in
    OnOk-more r (OnOk-both _ _ r e.takes e.noted)
    (λ p. rw (← c.self.view_is, e.table, p.1)
    (made_view-used_constant s.terms s.symbols s.steps.items s.made.items c.self.invariant c.use_constant.new.symbols c.args.name.now p.0 e.known))

pub returns-clause-fits : goal.returns-clause-fits
returns-clause-fits c =
    let s = c.self.inside in
    rw (← c.self.view_is)
    (subst (λ ss. OnOk c.use_constant.result (FitsGeneric (generic_type ss c.args.name.now) (type_at s.terms c.args.ty.0)))
    (sym c.self.invariant.symbols_taken) c.use_constant.ensures.fits)

pub returns-clause-refusal : goal.returns-clause-refusal
returns-clause-refusal c =
    let s = c.self.inside in
    rw (← c.self.view_is)
    (subst (λ ss. IfErr c.use_constant.result (λ fault. RefusesConstant fault (generic_type ss c.args.name.now) (type_at s.terms c.args.ty.0)))
    (sym c.self.invariant.symbols_taken) c.use_constant.ensures.refusal)

pub returns-clause-unchanged : goal.returns-clause-unchanged
returns-clause-unchanged c =
    let r = c.use_constant.result in
    let e = c.use_constant.ensures in
    OnErr-more r (OnErr-both _ _ r e.untaken e.unnoted) (λ q. rw (← c.self.view_is, e.table, q.0, q.1) refl)

pub returns-clause-trees : goal.returns-clause-trees
returns-clause-trees c = rw (← c.self.view_is) c.use_constant.ensures.table
