use Rattle.std.proofs.Common.{take, sym, ap, subst, ◌∙◌, ◌++◌, ◌∷◌, []}
use Rattle.std.specs.Prelude.{is_some}
use Rattle.std.proofs.lemmas.List.{take_all}
use Rattle.hol_defs.specs.Lists.{term_of, AreFound}
use Rattle.hol_defs.proofs.FirstTermLaws.{found-last}
use Rattle.hol_defs.proofs.JudgeLaws.{failing}
use Rattle.hol_defs.proofs.LoopLaws.{one_fails, taken_next}
use Rattle.hol_defs.proofs.lists.first_terms.Goals as goal

pub loop-pair-init : goal.loop-pair-init
loop-pair-init c = subst (AreFound [] c.args.equations.items) (sym c.new-terms.ensures.items) tt

pub loop-pair-preserved : goal.loop-pair-preserved
loop-pair-preserved c =
    let ps = c.args.pairs.now in
    let i = c.loop-pair.pair-index in
    let es = c.args.equations.items in
    subst (λ done. AreFound done es c.push.new.self.items) (sym (taken_next ps i c.pair-item.result c.loop-pair-test.true (sym c.pair-item.is))) (
    subst (AreFound (take i ps ++ c.pair-item.result ∷ []) es) (sym c.in_ok-push-in-Some.ensures.items) (
    found-last (take i ps) es c.loop-pair.terms.items c.pair-item.result c.in-Some.term c.loop-pair.invariant
    (sym (c.in_ok-note_all.ensures c.pair-item.result.1) ∙ sym c.in-Some.ensures)))

pub returns-in-None-clause-refusal : goal.returns-in-None-clause-refusal
returns-in-None-clause-refusal c =
    failing _ _ [] (
    one_fails (λ p. is_some (term_of c.args.equations.items p.1)) c.args.pairs.now c.loop-pair.pair-index c.pair-item.result c.loop-pair-test.true
    (sym c.pair-item.is) (
    ap is_some (sym (c.in_ok-note_all.ensures c.pair-item.result.1) ∙ sym c.in-None.ensures)))

pub returns-clause-found : goal.returns-clause-found
returns-clause-found c = subst (λ done. AreFound done c.args.equations.items c.loop-pair.terms.items)
    (take_all c.loop-pair.pair-index c.args.pairs.now c.loop-pair-test.false) c.loop-pair.invariant
