use Rattle.std.proofs.Common.{sym, ap, ◌∙◌, ◌+◌, length}
use Rattle.std.proofs.lemmas.List.{length-map}
use Rattle.hol_rules.specs.Views.{step_view}
use Rattle.hol_rules.specs.Laws.{named_by}
use Rattle.hol_rules.proofs.Answering.{IfOk-more, OnErr-both, OnErr-more, OnOk-both, OnOk-IfOk, OnOk-OnErr}
use Rattle.hol_rules.proofs.Growth.{IsKept-Keeps, made_view-Keeps}
use Rattle.hol_rules.proofs.TypeKept.{concl-applies, concl-term, made_view-type, IsKept-type}
use Rattle.hol_rules.proofs.proof.Proof.keep_type.Goals as goal

pub keep_laws-requires-clause-known : goal.keep_laws-requires-clause-known
keep_laws-requires-clause-known c = c.self.invariant.symbols_known

pub keep_laws-requires-clause-term : goal.keep_laws-requires-clause-term
keep_laws-requires-clause-term c =
    let one = rw (← c.self.view_is) at c.requires.one in
    let parts = rw (← c.self.view_is) at c.requires.parts in
    concl-term _ c.self.invariant.proof _ c.args.one one c.args.parts parts

pub keep_laws-requires-clause-application : goal.keep_laws-requires-clause-application
keep_laws-requires-clause-application c =
    let one = rw (← c.self.view_is) at c.requires.one in
    let parts = rw (← c.self.view_is) at c.requires.parts in
    (_, (parts.witness, concl-applies _ c.self.invariant.proof _ c.args.one one c.args.parts parts))

pub invariant_of-self : goal.invariant_of-self
invariant_of-self c =
    let s = c.self.inside in
    let one = rw (← c.self.view_is) at c.requires.one in
    let parts = rw (← c.self.view_is) at c.requires.parts in
    let laws = rw (← c.self.view_is) at c.requires.laws in
    let r = c.keep_laws.result in
    let e = c.keep_laws.ensures in
    let names = named_by c.args.names in
    OnOk-OnErr r (OnOk-both _ _ r e.takes (OnOk-both _ _ r e.noted e.kept)) (OnErr-both _ _ r e.untaken (OnErr-both _ _ r e.unnoted e.unkept))
    (λ p. rw (p.1.0, p.1.1)
    (IsKept-type c.args.version s.terms c.keep_laws.new.terms e.keeps s.symbols c.keep_laws.new.symbols s.steps.items s.made.items c.self.invariant names
    c.args.one one c.args.parts parts c.args.laws laws c.in_ok-steps.steps c.in_ok-steps.ensures p.0 e.known))
    (λ q. rw (q.0, q.1.0, q.1.1) (IsKept-Keeps e.keeps s.symbols s.steps.items s.made.items c.self.invariant))

pub returns-clause-numbers : goal.returns-clause-numbers
returns-clause-numbers c =
    let s = c.self.inside in
    let count = ap length c.self.invariant.steps ∙ length-map s.steps.items (step_view s.terms) in
    IfOk-more c.keep_laws.result c.keep_laws.ensures.numbers (λ ids n. rw (← c.self.view_is) (n.0 ∙ sym count, n.1 ∙ ap (λ k. k + 1) (sym count)))

pub returns-clause-kept : goal.returns-clause-kept
returns-clause-kept c =
    let s = c.self.inside in
    let one = rw (← c.self.view_is) at c.requires.one in
    let parts = rw (← c.self.view_is) at c.requires.parts in
    let laws = rw (← c.self.view_is) at c.requires.laws in
    let r = c.keep_laws.result in
    let e = c.keep_laws.ensures in
    let names = named_by c.args.names in
    OnOk-IfOk r (OnOk-both _ _ r e.takes (OnOk-both _ _ r e.noted e.kept))
    (λ p ids. rw (← c.self.view_is, p.1.0, p.1.1)
    (made_view-type c.args.version s.terms c.keep_laws.new.terms e.keeps s.symbols c.keep_laws.new.symbols s.steps.items s.made.items c.self.invariant names
    c.args.one one c.args.parts parts c.args.laws laws c.in_ok-steps.steps c.in_ok-steps.ensures p.0 e.known))

pub returns-clause-unchanged : goal.returns-clause-unchanged
returns-clause-unchanged c =
    let s = c.self.inside in
    let r = c.keep_laws.result in
    let e = c.keep_laws.ensures in
    OnErr-more r (OnErr-both _ _ r e.untaken (OnErr-both _ _ r e.unnoted e.unkept))
    (λ q. rw (← c.self.view_is, q.0, q.1.0, q.1.1)
    (sym (made_view-Keeps e.keeps s.symbols s.steps.items s.made.items c.self.invariant.symbols_known c.self.invariant.known)))

pub returns-clause-keeps : goal.returns-clause-keeps
returns-clause-keeps c = rw (← c.self.view_is) c.keep_laws.ensures.keeps
