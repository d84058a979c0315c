use Rattle.std.proofs.Common.{sym, ◌∙◌}
use Rattle.stack_machine.proofs.OwnKinds.{not-some}
use Rattle.stack_machine.proofs.making.make_operator.Goals as goal

pub input_operator-requires-clause-input : goal.input_operator-requires-clause-input
input_operator-requires-clause-input c = not-some _ (sym c.is_own_operator.ensures ∙ c.if-is_own_operator.false)

pub returns-then-is_own_operator-clause-known : goal.returns-then-is_own_operator-clause-known
returns-then-is_own_operator-clause-known c = c.own_operator.ensures.known

pub returns-then-is_own_operator-clause-made : goal.returns-then-is_own_operator-clause-made
returns-then-is_own_operator-clause-made c = c.own_operator.ensures.made

pub returns-then-is_own_operator-clause-fits : goal.returns-then-is_own_operator-clause-fits
returns-then-is_own_operator-clause-fits c = c.own_operator.ensures.fits

pub returns-then-is_own_operator-clause-takes : goal.returns-then-is_own_operator-clause-takes
returns-then-is_own_operator-clause-takes c = c.own_operator.ensures.takes

pub returns-then-is_own_operator-clause-refused : goal.returns-then-is_own_operator-clause-refused
returns-then-is_own_operator-clause-refused c = c.own_operator.ensures.refused

pub returns-then-is_own_operator-clause-unchanged : goal.returns-then-is_own_operator-clause-unchanged
returns-then-is_own_operator-clause-unchanged c = c.own_operator.ensures.unchanged

pub returns-then-is_own_operator-clause-keeps : goal.returns-then-is_own_operator-clause-keeps
returns-then-is_own_operator-clause-keeps c = c.own_operator.ensures.keeps

pub returns-else-is_own_operator-clause-known : goal.returns-else-is_own_operator-clause-known
returns-else-is_own_operator-clause-known c = c.input_operator.ensures.known

pub returns-else-is_own_operator-clause-made : goal.returns-else-is_own_operator-clause-made
returns-else-is_own_operator-clause-made c = c.input_operator.ensures.made

pub returns-else-is_own_operator-clause-fits : goal.returns-else-is_own_operator-clause-fits
returns-else-is_own_operator-clause-fits c = c.input_operator.ensures.fits

pub returns-else-is_own_operator-clause-takes : goal.returns-else-is_own_operator-clause-takes
returns-else-is_own_operator-clause-takes c = c.input_operator.ensures.takes

pub returns-else-is_own_operator-clause-refused : goal.returns-else-is_own_operator-clause-refused
returns-else-is_own_operator-clause-refused c = c.input_operator.ensures.refused

pub returns-else-is_own_operator-clause-unchanged : goal.returns-else-is_own_operator-clause-unchanged
returns-else-is_own_operator-clause-unchanged c = c.input_operator.ensures.unchanged

pub returns-else-is_own_operator-clause-keeps : goal.returns-else-is_own_operator-clause-keeps
returns-else-is_own_operator-clause-keeps c = c.input_operator.ensures.keeps
