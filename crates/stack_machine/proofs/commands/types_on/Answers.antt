use Rattle.article_spec.specs.Operands.{as_type}
use Rattle.stack_machine.proofs.Read.{elements-unread, elements-read}
use Rattle.stack_machine.proofs.commands.types_on.Goals as goal

pub returns-in_err-list : goal.returns-in_err-list
returns-in_err-list c = elements-unread as_type c.args.store.now _ _ _ _ _ _ c.from_residual.ensures.1 (c.in_err-list.ensures c.args.store.now).refused

pub types_in-requires : goal.types_in-requires
types_in-requires c = (c.in_ok-list.ensures c.args.store.now).known c.requires

pub returns : goal.returns
returns c = elements-read as_type c.args.store.now _ _ _ _ c.in_ok-list.list _ (c.in_ok-list.ensures c.args.store.now) c.types_in.ensures.types
    c.types_in.ensures.known c.types_in.ensures.refused
