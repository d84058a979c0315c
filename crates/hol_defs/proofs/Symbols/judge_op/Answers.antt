use Rattle.std.proofs.Common.{sym, ◌∙◌}
use Rattle.hol_defs.proofs.JudgeLaws.{first_of_three, second_of_three, third_of_three, none_of_three}
use Rattle.hol_defs.proofs.Symbols.judge_op.Goals as goal

pub returns-then-not-are_new-clause-refusal : goal.returns-then-not-are_new-clause-refusal
returns-then-not-are_new-clause-refusal c = first_of_three _ _ _ _ _ _
    (sym (c.are_new.ensures.new c.args.table.now c.args.names.now c.requires.known) ∙ c.if-not-are_new.true)

pub returns-then-not-branch-clause-refusal : goal.returns-then-not-branch-clause-refusal
returns-then-not-branch-clause-refusal c = second_of_three _ _ _ _ _ _
    (sym (c.are_new.ensures.new c.args.table.now c.args.names.now c.requires.known) ∙ c.if-not-are_new.false)
    (sym c.in_ok-is_closed.ensures ∙ c.if-not-branch.true)

pub returns-then-not-branch-2-clause-refusal : goal.returns-then-not-branch-2-clause-refusal
returns-then-not-branch-2-clause-refusal c = third_of_three _ _ _ _ _ _
    (sym (c.are_new.ensures.new c.args.table.now c.args.names.now c.requires.known) ∙ c.if-not-are_new.false)
    (sym c.in_ok-is_closed.ensures ∙ c.if-not-branch.false) (sym c.in_ok-are_type_variables.ensures ∙ c.if-not-branch-2.true)

pub returns-clause-fits : goal.returns-clause-fits
returns-clause-fits c = none_of_three _ _ _ _ _ _ (sym (c.are_new.ensures.new c.args.table.now c.args.names.now c.requires.known) ∙ c.if-not-are_new.false)
    (sym c.in_ok-is_closed.ensures ∙ c.if-not-branch.false) (sym c.in_ok-are_type_variables.ensures ∙ c.if-not-branch-2.false)
