use Rattle.std.proofs.Common.{sym, ◌∙◌}
use Rattle.stack_machine.proofs.Read.{known-at, operand-there, operand-short}
use Rattle.stack_machine.proofs.inference.lists_on.Goals as goal

pub lists_in-requires : goal.lists_in-requires
lists_in-requires c = known-at c.args.store.now c.args.stack.now c.args.depth c.in-Some.object (sym c.at.ensures ∙ c.in-Some.is) c.requires

pub returns-in-Some : goal.returns-in-Some
returns-in-Some c = operand-there c.args.store.now _ _ _ _ _ c.in-Some.object _ (sym c.at.ensures ∙ c.in-Some.is) c.lists_in.ensures

pub returns-in-None : goal.returns-in-None
returns-in-None c = operand-short c.args.store.now _ _ _ _ _ (sym c.at.ensures ∙ c.in-None.is)
