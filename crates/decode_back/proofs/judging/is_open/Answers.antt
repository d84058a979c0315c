use Rattle.std.proofs.Common.{sym, ◌∙◌}
use Rattle.hol_term.specs.Tables.{term_at, terms_at}
use Rattle.decode_back.proofs.TypeWalk.{IfOk-weaker}
use Rattle.decode_back.proofs.JudgeLemmas.{is_bounded_formula-Decides, are_bounded_formulas-Decides, not-told, false-told, judged-repeats, judged-formulas, judged-conclusion, parameters-told}
use Rattle.decode_back.proofs.judging.is_open.Goals as goal

pub returns-then-not-is_as_long : goal.returns-then-not-is_as_long
returns-then-not-is_as_long c s made =
    false-told (judged-repeats c.args.table.now c.args.count c.args.variables.now c.args.ids.now c.args.sequent.now.concl s made.0 c.args.sequent.now.hyps
    made.1 (not-told c.is_as_long.result c.is_as_long.ensures c.if-not-is_as_long.true))

pub returns-then-not-are_formulas : goal.returns-then-not-are_formulas
returns-then-not-are_formulas c s made =
    false-told (judged-formulas c.args.table.now c.args.count c.args.variables.now c.args.ids.now c.args.sequent.now.concl s made.0 c.args.sequent.now.hyps
    made.1
    (not-told _ (are_bounded_formulas-Decides (terms_at c.args.table.now c.args.ids.now)) (sym c.are_formulas.ensures ∙ c.if-not-are_formulas.true)))

pub returns-then-not-is_formula : goal.returns-then-not-is_formula
returns-then-not-is_formula c s made =
    false-told (judged-conclusion c.args.table.now c.args.count c.args.variables.now c.args.ids.now c.args.sequent.now.concl s made.0 c.args.sequent.now.hyps
    made.1
    (not-told _ (is_bounded_formula-Decides (term_at c.args.table.now c.args.sequent.now.concl.0)) (sym c.is_formula.ensures ∙ c.if-not-is_formula.true)))

pub returns : goal.returns
returns c =
    IfOk-weaker _ _ c.are_parameters.result c.are_parameters.ensures (λ told h s made.
    parameters-told c.args.table.now c.args.count c.args.variables.now c.args.ids.now c.args.sequent.now.concl s made.0 c.args.sequent.now.hyps made.1
    (c.is_as_long.ensures.0 c.if-not-is_as_long.false)
    ((are_bounded_formulas-Decides (terms_at c.args.table.now c.args.ids.now)).0 (sym c.are_formulas.ensures ∙ c.if-not-are_formulas.false))
    ((is_bounded_formula-Decides (term_at c.args.table.now c.args.sequent.now.concl.0)).0 (sym c.is_formula.ensures ∙ c.if-not-is_formula.false)) told h)
