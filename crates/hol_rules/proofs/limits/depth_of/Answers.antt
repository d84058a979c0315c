use Rattle.std.proofs.Common.{arith, subst, sym}
use Rattle.std.proofs.lemmas.List.{drop_all, drop_more}
use Rattle.hol_rules.proofs.Measuring.{IsDeepening, deepening_begins, deepening_goes_on, deepening_ends}
use Rattle.hol_rules.proofs.limits.depth_of.Goals as goal

pub loop-id-init : goal.loop-id-init
loop-id-init c =
    let trees = c.args.terms.now in
    let s = c.args.sequent.now in
    subst (λ ids. IsDeepening trees s.hyps ids s.concl c.depth-depth.result) (sym c.ids-id-items.ensures.numbers)
    (deepening_begins trees s.hyps s.concl c.depth-depth.result c.requires.0 c.depth-depth.ensures)

pub loop-id-preserved : goal.loop-id-preserved
loop-id-preserved c =
    let trees = c.args.terms.now in
    let s = c.args.sequent.now in
    deepening_goes_on trees s.hyps s.concl _ _ c.loop-id.depth _ _ c.depth.ensures c.max-depth.ensures
    (subst (λ ids. IsDeepening trees s.hyps ids s.concl c.loop-id.depth) (drop_more c.ids-id-items.result.now c.loop-id.id-index _ c.loop-id-test.true)
    c.loop-id.invariant)

pub depth-requires : goal.depth-requires
depth-requires c =
    let trees = c.args.terms.now in
    let s = c.args.sequent.now in
    (subst (λ ids. IsDeepening trees s.hyps ids s.concl c.loop-id.depth)
    (drop_more c.ids-id-items.result.now c.loop-id.id-index (record { 0 = 0 }) c.loop-id-test.true) c.loop-id.invariant).known.0

pub returns : goal.returns
returns c =
    let trees = c.args.terms.now in
    let s = c.args.sequent.now in
    deepening_ends trees s.hyps s.concl c.loop-id.depth
    (subst (λ ids. IsDeepening trees s.hyps ids s.concl c.loop-id.depth)
    (drop_all c.loop-id.id-index c.ids-id-items.result.now (omega (arith, c.loop-id-test.false))) c.loop-id.invariant)
