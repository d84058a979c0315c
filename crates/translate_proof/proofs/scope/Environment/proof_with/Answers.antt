use Rattle.std.proofs.Common.{◌∙◌, sym, ap, subst, Some}
use Rattle.std.proofs.lemmas.Result.{IfOk-weaker}
use Rattle.hol_term.specs.Tables.{term_at}
use Rattle.lp_term.specs.Tables.{Holds}
use Rattle.translate_proof.specs.ProvedHypotheses.{proof_with, IsPut}
use Rattle.translate_proof.proofs.ProvedLaws.{proof_with-own, proof_with-other}
use Rattle.translate_proof.proofs.scope.Environment.proof_with.Goals as goal

pub returns-then-eq-clause-made : goal.returns-then-eq-clause-made
returns-then-eq-clause-made c = λ given trees x stands known put.
    let table = c.args.target.now.table in
    let there = subst (λ o. IsPut trees table o x) c.in-Some.is put in
    subst (λ o. Holds table c.in-Some.own.tree.0 (proof_with trees o x given.scope.proofs (term_at trees c.args.id.0))) (sym c.in-Some.is)
    (there.1 ∙ ap Some (proof_with-own trees stands.one_term c.in-Some.own x given.scope.proofs c.args.id known there.0 (sym c.eq.ensures ∙ c.if-eq.true)))

pub returns-clause-made : goal.returns-clause-made
returns-clause-made c =
    IfOk-weaker c.hypothesis-2.result _ _
    (λ r h given trees x stands known put.
    let there = subst (λ o. IsPut trees c.args.target.now.table o x) c.in-Some.is put in
    subst (λ o. Holds c.hypothesis-2.new.target.table r.0 (proof_with trees o x given.scope.proofs (term_at trees c.args.id.0))) (sym c.in-Some.is)
    (h given trees stands known ∙ ap Some
    (proof_with-other trees stands.one_term c.in-Some.own x given.scope.proofs c.args.id known there.0 (sym c.eq.ensures ∙ c.if-eq.false))))
    c.hypothesis-2.ensures.made
