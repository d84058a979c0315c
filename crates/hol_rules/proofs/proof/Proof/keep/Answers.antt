use Rattle.std.proofs.Common.{refl, sym, ap, ◌∙◌}
use Rattle.hol_rules.proofs.Answering.{IfOk-more, OnErr-both, OnErr-more, OnOk-both, OnOk-IfOk, OnOk-OnErr}
use Rattle.hol_rules.proofs.Pushed.{made_view-pushed, step_count-kept, IsKept-pushed}
use Rattle.hol_rules.proofs.proof.Proof.keep.Goals as goal

pub invariant_of-self : goal.invariant_of-self
invariant_of-self c =
    let s = c.self.inside in
    let r = c.keep_step.result in
    let known = rw (← c.self.view_is) at c.requires.known in
    let follows = rw (← c.self.view_is) at c.requires.follows in
    OnOk-OnErr r (OnOk-both _ _ r c.keep_step.ensures.kept c.keep_step.ensures.noted)
    (OnErr-both _ _ r c.keep_step.ensures.unchanged c.keep_step.ensures.unnoted)
    (λ p. rw (p.0, p.1) (IsKept-pushed s.terms s.symbols s.steps.items s.made.items c.self.invariant c.args.step known follows))
    (λ q. rw (q.0, q.1) c.self.invariant)

pub returns-clause-number : goal.returns-clause-number
returns-clause-number c =
    let s = c.self.inside in
    IfOk-more c.keep_step.result c.keep_step.ensures.number
    (λ id e. rw (← c.self.view_is) (e ∙ sym (step_count-kept s.terms s.symbols s.steps.items s.made.items c.self.invariant c.args.step)))

pub returns-clause-kept : goal.returns-clause-kept
returns-clause-kept c =
    let s = c.self.inside in
    let r = c.keep_step.result in
    OnOk-IfOk r (OnOk-both _ _ r c.keep_step.ensures.kept c.keep_step.ensures.noted)
    (λ p id. rw (← c.self.view_is, p.0, p.1)
    (ap (λ made. record { trees = s.terms; made = made }) (made_view-pushed s.terms s.symbols s.steps.items s.made.items c.self.invariant c.args.step)))

pub returns-clause-unchanged : goal.returns-clause-unchanged
returns-clause-unchanged c =
    let r = c.keep_step.result in
    OnErr-more r (OnErr-both _ _ r c.keep_step.ensures.unchanged c.keep_step.ensures.unnoted) (λ q. rw (← c.self.view_is, q.0, q.1) refl)
