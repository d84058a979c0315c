use Rattle.std.proofs.Common.{ap, ◌∙◌, subst, sym}
use Rattle.hol_term.specs.Tables.{terms_at, AreKnown}
use Rattle.sequent.proofs.HypLaws.{AreKnown-without, terms_at-without}
use Rattle.std.proofs.lemmas.Result.{IfOk-weaker}
use Rattle.sequent.proofs.Sequent.without.Goals as goal

pub returns-clause-terms : goal.returns-clause-terms
returns-clause-terms c = IfOk-weaker c.without.result _ _ (λ hyps e trees d k h. ap (terms_at trees) e ∙ terms_at-without trees d c.args.a.now c.args.p k h)
    c.without.ensures

pub returns-clause-known : goal.returns-clause-known
returns-clause-known c = IfOk-weaker c.without.result _ _ (λ hyps e trees k. subst (AreKnown trees) (sym e) (AreKnown-without trees c.args.a.now c.args.p k))
    c.without.ensures
