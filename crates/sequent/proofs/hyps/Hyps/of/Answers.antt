use Rattle.std.proofs.Common.{[], ap, sym, subst, ◌∙◌}
use Rattle.std.proofs.lemmas.Result.{IfOk-weaker}
use Rattle.hol_term.specs.Tables.{AreKnown, terms_at}
use Rattle.sequent.proofs.HypLaws.{AreKnown-union, terms_at-union}
use Rattle.sequent.proofs.hyps.Hyps.of.Goals as goal

pub returns-clause-numbers : goal.returns-clause-numbers
returns-clause-numbers c = IfOk-weaker c.listed.result _ _ (λ hyps e. e ∙ c.in_ok-list.ensures) c.listed.ensures

pub returns-clause-terms : goal.returns-clause-terms
returns-clause-terms c = IfOk-weaker c.listed.result _ _
    (λ hyps e trees d k. ap (terms_at trees) (e ∙ c.in_ok-list.ensures) ∙ terms_at-union trees d [] c.args.ids.now tt k) c.listed.ensures

pub returns-clause-known : goal.returns-clause-known
returns-clause-known c = IfOk-weaker c.listed.result _ _
    (λ hyps e trees k. subst (AreKnown trees) (sym (e ∙ c.in_ok-list.ensures)) (AreKnown-union trees [] c.args.ids.now tt k)) c.listed.ensures
