use Rattle.article_spec.specs.Operands.{as_name, as_variable, pair_of}
use Rattle.stack_machine.proofs.Read.{elements-unread, elements-read}
use Rattle.stack_machine.proofs.definitions.constant_pairs_on.Goals as goal

pub returns-in_err-list : goal.returns-in_err-list
returns-in_err-list c = elements-unread (pair_of as_name as_variable) c.args.store.now _ _ _ _ _ _ c.from_residual.ensures.1
    (c.in_err-list.ensures c.args.store.now).refused

pub constant_pairs_in-requires : goal.constant_pairs_in-requires
constant_pairs_in-requires c = (c.in_ok-list.ensures c.args.store.now).known c.requires

pub returns : goal.returns
returns c = elements-read (pair_of as_name as_variable) c.args.store.now _ _ _ _ c.in_ok-list.list _ (c.in_ok-list.ensures c.args.store.now)
    c.constant_pairs_in.ensures.pairs c.constant_pairs_in.ensures.known c.constant_pairs_in.ensures.refused
