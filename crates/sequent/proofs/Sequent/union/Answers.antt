use Rattle.std.proofs.Common.{ap, ◌∙◌, subst, sym}
use Rattle.std.proofs.lemmas.Result.{IfOk-weaker}
use Rattle.hol_term.specs.Tables.{terms_at, AreKnown}
use Rattle.sequent.proofs.HypLaws.{AreKnown-union, terms_at-union}
use Rattle.sequent.proofs.Sequent.union.Goals as goal

pub returns-clause-terms : goal.returns-clause-terms
returns-clause-terms c = IfOk-weaker c.united.result _ _ (λ hyps e trees d k l. ap (terms_at trees) e ∙ terms_at-union trees d c.args.a.now c.args.b.now k l)
    c.united.ensures

pub returns-clause-known : goal.returns-clause-known
returns-clause-known c = IfOk-weaker c.united.result _ _
    (λ hyps e trees k l. subst (AreKnown trees) (sym e) (AreKnown-union trees c.args.a.now c.args.b.now k l)) c.united.ensures
