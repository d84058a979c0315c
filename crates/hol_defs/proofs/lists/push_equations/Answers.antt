use Rattle.std.proofs.Common.{◌≡◌, List, map, refl, sym, ap, subst, ◌∙◌, ◌++◌, ◌∷◌, [], take, get_or, slice_index_or, arith}
use Rattle.std.proofs.lemmas.Grind.{common_steps}
use Rattle.std.proofs.lemmas.List.{take_all}
use Rattle.hol_term.specs.declared.TermId.{TermId}
use Rattle.hol_defs.specs.declared.lists.Equation.{Equation}
use Rattle.hol_defs.specs.Lists.{equation_at, equations_of, AreEquationsKnown}
use Rattle.hol_defs.proofs.LoopLaws.{taken_next, term_here}
use Rattle.hol_defs.proofs.PairLaws.{equations_of-last}
use Rattle.hol_defs.proofs.lists.push_equations.Goals as goal

pub push_equation-requires-clause-hyp : goal.push_equation-requires-clause-hyp
push_equation-requires-clause-hyp c =
    let hs = c.args.hyps.now in
    let i = c.loop-hyp.hyp-index in
    let h : TermId = slice_index_or hs i (record { 0 = 0 }) in
    let at : get_or hs i h ≡ h = grind (arith, common_steps) in
    term_here c.args.table.now hs i h c.loop-hyp-test.true at c.requires.hyps

pub loop-hyp-init : goal.loop-hyp-init
loop-hyp-init c = subst (λ (es : List Equation). (map (equation_at c.args.table.now) es ≡ []) × AreEquationsKnown c.args.table.now es) (sym c.requires.none)
    (refl, tt)

pub loop-hyp-preserved : goal.loop-hyp-preserved
loop-hyp-preserved c =
    let trees = c.args.table.now in
    let vs = c.args.variables.now in
    let hs = c.args.hyps.now in
    let i = c.loop-hyp.hyp-index in
    let h : TermId = slice_index_or hs i (record { 0 = 0 }) in
    let at : get_or hs i h ≡ h = grind (arith, common_steps) in (
      c.in_ok-push_equation.ensures.said ∙ ap (λ l. l ++ equations_of trees vs (h ∷ [])) c.loop-hyp.invariant.0 ∙ sym (equations_of-last trees vs (take i hs) h)
          ∙ ap (equations_of trees vs) (sym (taken_next hs i h c.loop-hyp-test.true at)),
      c.in_ok-push_equation.ensures.known c.loop-hyp.invariant.1,
    )

pub returns-clause-said : goal.returns-clause-said
returns-clause-said c = c.loop-hyp.invariant.0 ∙ ap (equations_of c.args.table.now c.args.variables.now)
    (take_all c.loop-hyp.hyp-index c.args.hyps.now c.loop-hyp-test.false)

pub returns-clause-known : goal.returns-clause-known
returns-clause-known c = c.loop-hyp.invariant.1
