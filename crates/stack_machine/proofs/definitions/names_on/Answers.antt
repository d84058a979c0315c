use Rattle.article_spec.specs.Operands.{as_name}
use Rattle.stack_machine.proofs.Read.{elements-unread, elements-read}
use Rattle.stack_machine.proofs.Passing.{IfOk-map}
use Rattle.stack_machine.proofs.definitions.names_on.Goals as goal

pub returns-in_err-list : goal.returns-in_err-list
returns-in_err-list c = elements-unread as_name c.args.store.now _ _ _ _ _ _ c.from_residual.ensures.1 (c.in_err-list.ensures c.args.store.now).refused

pub names_in-requires : goal.names_in-requires
names_in-requires c = (c.in_ok-list.ensures c.args.store.now).known c.requires

pub returns : goal.returns
returns c = elements-read as_name c.args.store.now _ _ _ _ c.in_ok-list.list _ (c.in_ok-list.ensures c.args.store.now) c.names_in.ensures.names
    (IfOk-map c.names_in.result _ _ c.names_in.ensures.names (λ names h. tt)) c.names_in.ensures.refused
