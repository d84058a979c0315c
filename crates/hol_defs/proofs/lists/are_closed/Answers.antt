use Rattle.std.proofs.Common.{List, drop, map, sym, ap, ◌∙◌, ◌+◌}
use Rattle.std.specs.Prelude.{◌&&◌}
use Rattle.std.specs.List.{list_all}
use Rattle.std.proofs.lemmas.List.{drop_all}
use Rattle.hol_spec.specs.Defining.{is_closed}
use Rattle.hol_defs.specs.declared.lists.Equation.{Equation}
use Rattle.hol_defs.specs.Lists.{equation_at, IsEquationKnown}
use Rattle.hol_defs.proofs.LoopLaws.{at_element, of_element}
use Rattle.hol_defs.proofs.lists.are_closed.Goals as goal

pub is_closed-requires : goal.is_closed-requires
is_closed-requires c =
    (of_element (IsEquationKnown c.args.table.now) c.args.equations.now c.loop-equation.equation-index c.equation-item.result c.loop-equation-test.true
    (sym c.equation-item.is) c.requires).term

pub returns-then-not-branch : goal.returns-then-not-branch
returns-then-not-branch c =
    let es = c.args.equations.now in
    let i = c.loop-equation.equation-index in
    let all = λ (l : List Equation). list_all (λ e. is_closed e.1) (map (equation_at c.args.table.now) l) in
    sym (at_element es i c.equation-item.result c.loop-equation-test.true (sym c.equation-item.is) all c.loop-equation.invariant
    ∙ ap (λ b. b && all (drop (i + 1) es)) (sym c.in_ok-is_closed.ensures ∙ c.if-not-branch.true))

pub loop-equation-preserved : goal.loop-equation-preserved
loop-equation-preserved c =
    let es = c.args.equations.now in
    let i = c.loop-equation.equation-index in
    let all = λ (l : List Equation). list_all (λ e. is_closed e.1) (map (equation_at c.args.table.now) l) in
    sym (at_element es i c.equation-item.result c.loop-equation-test.true (sym c.equation-item.is) all c.loop-equation.invariant
    ∙ ap (λ b. b && all (drop (i + 1) es)) (sym c.in_ok-is_closed.ensures ∙ c.if-not-branch.false))

pub returns : goal.returns
returns c =
    let all = λ (l : List Equation). list_all (λ e. is_closed e.1) (map (equation_at c.args.table.now) l) in
    sym (ap all (drop_all c.loop-equation.equation-index c.args.equations.now c.loop-equation-test.false)) ∙ c.loop-equation.invariant
