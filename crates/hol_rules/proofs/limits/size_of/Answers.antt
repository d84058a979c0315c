use Rattle.std.proofs.Common.{arith, subst, sym}
use Rattle.std.proofs.lemmas.List.{drop_all, drop_more}
use Rattle.hol_rules.proofs.Measuring.{IsSizing, sizing_begins, sizing_goes_on, sizing_ends}
use Rattle.hol_rules.proofs.limits.size_of.Goals as goal

pub loop-id-init : goal.loop-id-init
loop-id-init c =
    let trees = c.args.terms.now in
    let s = c.args.sequent.now in
    subst (λ ids. IsSizing trees s.hyps ids s.concl c.size-size.result) (sym c.ids-id-items.ensures.numbers)
    (sizing_begins trees s.hyps s.concl c.size-size.result c.requires.0 c.size-size.ensures)

pub loop-id-preserved : goal.loop-id-preserved
loop-id-preserved c =
    let trees = c.args.terms.now in
    let s = c.args.sequent.now in
    sizing_goes_on trees s.hyps s.concl _ _ c.loop-id.size _ _ c.size.ensures c.saturating_add-size.ensures
    (subst (λ ids. IsSizing trees s.hyps ids s.concl c.loop-id.size) (drop_more c.ids-id-items.result.now c.loop-id.id-index _ c.loop-id-test.true)
    c.loop-id.invariant)

pub size-requires : goal.size-requires
size-requires c =
    let trees = c.args.terms.now in
    let s = c.args.sequent.now in
    (subst (λ ids. IsSizing trees s.hyps ids s.concl c.loop-id.size)
    (drop_more c.ids-id-items.result.now c.loop-id.id-index (record { 0 = 0 }) c.loop-id-test.true) c.loop-id.invariant).known.0

pub returns : goal.returns
returns c =
    let trees = c.args.terms.now in
    let s = c.args.sequent.now in
    sizing_ends trees s.hyps s.concl c.loop-id.size
    (subst (λ ids. IsSizing trees s.hyps ids s.concl c.loop-id.size)
    (drop_all c.loop-id.id-index c.ids-id-items.result.now (omega (arith, c.loop-id-test.false))) c.loop-id.invariant)
