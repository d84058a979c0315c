use Rattle.std.proofs.Common.{[], ap, sym, subst, ◌∙◌}
use Rattle.std.proofs.lemmas.Result.{IfOk-weaker}
use Rattle.hol_term.specs.Tables.{AreKnown, terms_at}
use Rattle.sequent.proofs.HypLaws.{AreKnown-union, terms_at-union, again-numbers}
use Rattle.sequent.proofs.hyps.Hyps.again.Goals as goal

pub returns-then-eq-clause-numbers : goal.returns-then-eq-clause-numbers
returns-then-eq-clause-numbers c =
    IfOk-weaker c.copied.result _ _ (λ hyps e. e
    ∙ again-numbers c.args.self.now c.args.ids.now c.ids.result.now c.eq.result c.ids.ensures.numbers c.ids.ensures.no_repeats c.eq.ensures c.if-eq.true)
    c.copied.ensures

pub returns-then-eq-clause-terms : goal.returns-then-eq-clause-terms
returns-then-eq-clause-terms c =
    IfOk-weaker c.copied.result _ _
    (λ hyps e trees d k. ap (terms_at trees) (e
    ∙ again-numbers c.args.self.now c.args.ids.now c.ids.result.now c.eq.result c.ids.ensures.numbers c.ids.ensures.no_repeats c.eq.ensures c.if-eq.true)
    ∙ terms_at-union trees d [] c.args.ids.now tt k)
    c.copied.ensures

pub returns-then-eq-clause-known : goal.returns-then-eq-clause-known
returns-then-eq-clause-known c =
    IfOk-weaker c.copied.result _ _
    (λ hyps e trees k. subst (AreKnown trees)
    (sym (e ∙ again-numbers c.args.self.now c.args.ids.now c.ids.result.now c.eq.result c.ids.ensures.numbers c.ids.ensures.no_repeats c.eq.ensures
    c.if-eq.true)) (AreKnown-union trees [] c.args.ids.now tt k))
    c.copied.ensures
