use Rattle.std.proofs.Common.{refl, sym, ap, ◌∙◌}
use Rattle.hol_rules.proofs.Answering.{IfOk-more, OnErr-both, OnErr-more, OnOk-both, OnOk-IfOk, OnOk-OnErr}
use Rattle.hol_rules.proofs.Pushed.{step_count-kept}
use Rattle.hol_rules.proofs.ListTaken.{made_view-list, IsKept-list}
use Rattle.sequent.specs.Sequents as numbers
use Rattle.hol_rules.proofs.proof.Proof.keep_list.Goals as goal

pub keep_constants-requires-clause-known : goal.keep_constants-requires-clause-known
keep_constants-requires-clause-known c = c.self.invariant.symbols_known

pub keep_constants-requires-clause-pairs : goal.keep_constants-requires-clause-pairs
keep_constants-requires-clause-pairs c = rw (← c.self.view_is) at c.requires.pairs

pub keep_constants-requires-clause-premise : goal.keep_constants-requires-clause-premise
keep_constants-requires-clause-premise c = rw (← c.self.view_is) at c.requires.premise

pub invariant_of-self : goal.invariant_of-self
invariant_of-self c =
    let s = c.self.inside in
    let trees = s.terms in
    let r = c.keep_constants.result in
    let e = c.keep_constants.ensures in
    let premise = rw (← c.self.view_is) at c.requires.premise in
    let known = rw (← c.self.view_is) at c.requires.known in
    let follows = rw (← c.self.view_is) at c.requires.follows in
    OnOk-OnErr r (OnOk-both _ _ r (OnOk-both _ _ r e.takes e.fits) (OnOk-both _ _ r e.noted e.kept))
    (OnErr-both _ _ r e.untaken (OnErr-both _ _ r e.unnoted e.unkept))
    (λ p. rw (e.table, p.1.0, p.1.1)
    (IsKept-list trees s.symbols s.steps.items s.made.items c.self.invariant c.keep_constants.new.symbols c.args.pairs.now
    (numbers.sequent_at trees c.args.premise.now) premise p.0.0 e.known p.0.1 c.args.step known follows))
    (λ q. rw (e.table, q.0, q.1.0, q.1.1) c.self.invariant)

pub returns-clause-number : goal.returns-clause-number
returns-clause-number c =
    let s = c.self.inside in
    IfOk-more c.keep_constants.result c.keep_constants.ensures.number
    (λ id e. rw (← c.self.view_is) (e ∙ sym (step_count-kept s.terms s.symbols s.steps.items s.made.items c.self.invariant c.args.step)))

pub returns-clause-kept : goal.returns-clause-kept
returns-clause-kept c =
    let s = c.self.inside in
    let trees = s.terms in
    let r = c.keep_constants.result in
    let e = c.keep_constants.ensures in
    let premise = rw (← c.self.view_is) at c.requires.premise in
    OnOk-IfOk r (OnOk-both _ _ r (OnOk-both _ _ r e.takes e.fits) (OnOk-both _ _ r e.noted e.kept))
    (λ p id. rw (← c.self.view_is, e.table, p.1.0, p.1.1)
    (ap (λ made. record { trees = trees; made = made })
    (made_view-list trees s.symbols s.steps.items s.made.items c.self.invariant c.keep_constants.new.symbols c.args.pairs.now
    (numbers.sequent_at trees c.args.premise.now) premise p.0.0 e.known p.0.1 c.args.step)))

pub returns-clause-unchanged : goal.returns-clause-unchanged
returns-clause-unchanged c =
    let r = c.keep_constants.result in
    let e = c.keep_constants.ensures in
    OnErr-more r (OnErr-both _ _ r e.untaken (OnErr-both _ _ r e.unnoted e.unkept)) (λ q. rw (← c.self.view_is, e.table, q.0, q.1.0, q.1.1) refl)
