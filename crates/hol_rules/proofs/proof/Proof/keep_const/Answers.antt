use Rattle.std.proofs.Common.{refl, sym, ap, ◌∙◌, ◌∷◌, []}
use Rattle.hol_spec.specs.Definitions.{Definition}
use Rattle.hol_spec.specs.Symbols.{Symbol}
use Rattle.hol_term.specs.Tables.{term_at}
use Rattle.hol_rules.proofs.Answering.{IfOk-more, OnErr-both, OnErr-more, OnOk-both, OnOk-IfOk, OnOk-OnErr}
use Rattle.hol_rules.proofs.Pushed.{step_count-kept}
use Rattle.hol_rules.proofs.ConstantEnds.{const-newly}
use Rattle.hol_rules.proofs.Defined.{made_view-defined, IsKept-defined}
use Rattle.hol_rules.specs.declared.made.Made.TheVariants as one
use Rattle.hol_rules.proofs.proof.Proof.keep_const.Goals as goal

pub keep_constant-requires-clause-known : goal.keep_constant-requires-clause-known
keep_constant-requires-clause-known c = c.self.invariant.symbols_known

pub keep_constant-requires-clause-term : goal.keep_constant-requires-clause-term
keep_constant-requires-clause-term c = rw (← c.self.view_is) at c.requires.term

pub invariant_of-self : goal.invariant_of-self
invariant_of-self c =
    let s = c.self.inside in
    let trees = s.terms in
    let r = c.keep_constant.result in
    let e = c.keep_constant.ensures in
    let t = term_at trees c.args.t.0 in
    let h = rw (← c.self.view_is) at c.requires.term in
    let known = rw (← c.self.view_is) at c.requires.known in
    let follows = rw (← c.self.view_is) at c.requires.follows in
    OnOk-OnErr r (OnOk-both _ _ r (OnOk-both _ _ r e.takes e.fits) (OnOk-both _ _ r e.noted e.kept))
    (OnErr-both _ _ r e.untaken (OnErr-both _ _ r e.unnoted e.unkept))
    (λ p. rw (e.table, p.1.0, p.1.1) (
    IsKept-defined trees s.symbols s.steps.items s.made.items c.self.invariant c.keep_constant.new.symbols (one.Const c.args.name.now ∷ [])
    (Symbol.defined (Definition.constant c.args.name.now t) ∷ [])
    (const-newly trees s.symbols c.keep_constant.new.symbols s.steps.items c.args.name.now c.args.name.now t h refl p.0.0 e.known p.0.1) c.args.step known
    follows
    ))
    (λ q. rw (e.table, q.0, q.1.0, q.1.1) c.self.invariant)

pub returns-clause-number : goal.returns-clause-number
returns-clause-number c =
    let s = c.self.inside in
    IfOk-more c.keep_constant.result c.keep_constant.ensures.number
    (λ id e. rw (← c.self.view_is) (e ∙ sym (step_count-kept s.terms s.symbols s.steps.items s.made.items c.self.invariant c.args.step)))

pub returns-clause-kept : goal.returns-clause-kept
returns-clause-kept c =
    let s = c.self.inside in
    let trees = s.terms in
    let r = c.keep_constant.result in
    let e = c.keep_constant.ensures in
    let t = term_at trees c.args.t.0 in
    let h = rw (← c.self.view_is) at c.requires.term in
    OnOk-IfOk r (OnOk-both _ _ r (OnOk-both _ _ r e.takes e.fits) (OnOk-both _ _ r e.noted e.kept)) (λ p id. rw (← c.self.view_is, e.table, p.1.0, p.1.1) (
    ap (λ made. record { trees = trees; made = made }) (
    made_view-defined trees s.symbols s.steps.items s.made.items c.self.invariant c.keep_constant.new.symbols (one.Const c.args.name.now ∷ [])
    (Symbol.defined (Definition.constant c.args.name.now t) ∷ [])
    (const-newly trees s.symbols c.keep_constant.new.symbols s.steps.items c.args.name.now c.args.name.now t h refl p.0.0 e.known p.0.1) c.args.step
    )
    ))

pub returns-clause-unchanged : goal.returns-clause-unchanged
returns-clause-unchanged c =
    let r = c.keep_constant.result in
    let e = c.keep_constant.ensures in
    OnErr-more r (OnErr-both _ _ r e.untaken (OnErr-both _ _ r e.unnoted e.unkept)) (λ q. rw (← c.self.view_is, e.table, q.0, q.1.0, q.1.1) refl)
