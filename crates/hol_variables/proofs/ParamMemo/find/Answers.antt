use Rattle.std.proofs.Common.{arith, subst}
use Rattle.std.proofs.lemmas.List.{drop_all, drop_more}
use Rattle.std.proofs.lemmas.Result.{IfOk-weaker}
use Rattle.hol_variables.proofs.Measured.{IsFinding, finding_ends, finding_goes_on}
use Rattle.hol_variables.proofs.ParamMemo.find.Goals as goal

pub loop-id-preserved : goal.loop-id-preserved
loop-id-preserved c =
    let trees = c.args.terms.now in
    let hyps = c.args.sequent.now.hyps in
    finding_goes_on trees hyps _ _ c.loop-id.found c.gather.new.found (c.in_ok-gather.ensures c.if-not-branch.false)
    (subst (λ rest. IsFinding trees hyps rest c.loop-id.found) (drop_more c.ids-id-items.result.now c.loop-id.id-index _ c.loop-id-test.true)
    c.loop-id.invariant)

pub returns : goal.returns
returns c =
    IfOk-weaker c.gather-2.result _ _
    (λ _ g e. finding_ends c.args.terms.now c.args.sequent.now _ c.loop-id.found c.gather-2.new.found
    (drop_all c.loop-id.id-index c.ids-id-items.result.now (omega (arith, c.loop-id-test.false))) c.loop-id.invariant (g e))
    c.gather-2.ensures
