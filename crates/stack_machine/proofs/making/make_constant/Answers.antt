use Rattle.std.proofs.Common.{sym, ◌∙◌}
use Rattle.stack_machine.proofs.OwnKinds.{not-some}
use Rattle.stack_machine.proofs.making.make_constant.Goals as goal

pub input_constant-requires-clause-input : goal.input_constant-requires-clause-input
input_constant-requires-clause-input c = not-some _ (sym c.is_own_constant.ensures ∙ c.if-is_own_constant.false)

pub returns-then-is_own_constant-clause-known : goal.returns-then-is_own_constant-clause-known
returns-then-is_own_constant-clause-known c = c.own_constant.ensures.known

pub returns-then-is_own_constant-clause-typed : goal.returns-then-is_own_constant-clause-typed
returns-then-is_own_constant-clause-typed c = c.own_constant.ensures.typed

pub returns-then-is_own_constant-clause-made : goal.returns-then-is_own_constant-clause-made
returns-then-is_own_constant-clause-made c = c.own_constant.ensures.made

pub returns-then-is_own_constant-clause-fits : goal.returns-then-is_own_constant-clause-fits
returns-then-is_own_constant-clause-fits c = c.own_constant.ensures.fits

pub returns-then-is_own_constant-clause-takes : goal.returns-then-is_own_constant-clause-takes
returns-then-is_own_constant-clause-takes c = c.own_constant.ensures.takes

pub returns-then-is_own_constant-clause-refused : goal.returns-then-is_own_constant-clause-refused
returns-then-is_own_constant-clause-refused c = c.own_constant.ensures.refused

pub returns-then-is_own_constant-clause-unchanged : goal.returns-then-is_own_constant-clause-unchanged
returns-then-is_own_constant-clause-unchanged c = c.own_constant.ensures.unchanged

pub returns-then-is_own_constant-clause-keeps : goal.returns-then-is_own_constant-clause-keeps
returns-then-is_own_constant-clause-keeps c = c.own_constant.ensures.keeps

pub returns-else-is_own_constant-clause-known : goal.returns-else-is_own_constant-clause-known
returns-else-is_own_constant-clause-known c = c.input_constant.ensures.known

pub returns-else-is_own_constant-clause-typed : goal.returns-else-is_own_constant-clause-typed
returns-else-is_own_constant-clause-typed c = c.input_constant.ensures.typed

pub returns-else-is_own_constant-clause-made : goal.returns-else-is_own_constant-clause-made
returns-else-is_own_constant-clause-made c = c.input_constant.ensures.made

pub returns-else-is_own_constant-clause-fits : goal.returns-else-is_own_constant-clause-fits
returns-else-is_own_constant-clause-fits c = c.input_constant.ensures.fits

pub returns-else-is_own_constant-clause-takes : goal.returns-else-is_own_constant-clause-takes
returns-else-is_own_constant-clause-takes c = c.input_constant.ensures.takes

pub returns-else-is_own_constant-clause-refused : goal.returns-else-is_own_constant-clause-refused
returns-else-is_own_constant-clause-refused c = c.input_constant.ensures.refused

pub returns-else-is_own_constant-clause-unchanged : goal.returns-else-is_own_constant-clause-unchanged
returns-else-is_own_constant-clause-unchanged c = c.input_constant.ensures.unchanged

pub returns-else-is_own_constant-clause-keeps : goal.returns-else-is_own_constant-clause-keeps
returns-else-is_own_constant-clause-keeps c = c.input_constant.ensures.keeps
