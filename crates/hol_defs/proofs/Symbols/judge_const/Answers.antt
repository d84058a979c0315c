use Rattle.std.proofs.Common.{ap, sym, ◌∙◌}
use Rattle.std.specs.Prelude.{not}
use Rattle.hol_defs.proofs.JudgeLaws.{first_of_three, second_of_three, third_of_three, none_of_three, known_term}
use Rattle.hol_defs.proofs.Symbols.judge_const.Goals as goal

pub returns-then-is_constant-clause-refusal : goal.returns-then-is_constant-clause-refusal
returns-then-is_constant-clause-refusal c = first_of_three _ _ _ _ _ _
    (ap not (sym (c.is_constant.ensures c.args.table.now c.requires.known) ∙ c.if-is_constant.true))

pub is_closed-requires : goal.is_closed-requires
is_closed-requires c = known_term c.args.table.now c.args.term.0 c.requires.term

pub returns-then-not-branch-clause-refusal : goal.returns-then-not-branch-clause-refusal
returns-then-not-branch-clause-refusal c = second_of_three _ _ _ _ _ _
    (ap not (sym (c.is_constant.ensures c.args.table.now c.requires.known) ∙ c.if-is_constant.false))
    (sym c.in_ok-is_closed.ensures ∙ c.if-not-branch.true)

pub returns-then-not-branch-2-clause-refusal : goal.returns-then-not-branch-2-clause-refusal
returns-then-not-branch-2-clause-refusal c = third_of_three _ _ _ _ _ _
    (ap not (sym (c.is_constant.ensures c.args.table.now c.requires.known) ∙ c.if-is_constant.false))
    (sym c.in_ok-is_closed.ensures ∙ c.if-not-branch.false) (sym c.in_ok-has_own_variables.ensures ∙ c.if-not-branch-2.true)

pub returns-clause-fits : goal.returns-clause-fits
returns-clause-fits c = none_of_three _ _ _ _ _ _ (ap not (sym (c.is_constant.ensures c.args.table.now c.requires.known) ∙ c.if-is_constant.false))
    (sym c.in_ok-is_closed.ensures ∙ c.if-not-branch.false) (sym c.in_ok-has_own_variables.ensures ∙ c.if-not-branch-2.false)
