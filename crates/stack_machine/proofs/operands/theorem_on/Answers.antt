use Rattle.std.proofs.Common.{sym, ◌∙◌}
use Rattle.stack_machine.proofs.Read.{operand-there, operand-short}
use Rattle.stack_machine.proofs.operands.theorem_on.Goals as goal

pub returns-in-Some : goal.returns-in-Some
returns-in-Some c m = operand-there m _ _ _ _ _ c.in-Some.object _ (sym c.at.ensures ∙ c.in-Some.is) (c.theorem_in.ensures m)

pub returns-in-None : goal.returns-in-None
returns-in-None c m = operand-short m _ _ _ _ _ (sym c.at.ensures ∙ c.in-None.is)
