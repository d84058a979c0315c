use Rattle.article_spec.specs.Operands.{as_term}
use Rattle.stack_machine.proofs.Read.{elements-unread, elements-read}
use Rattle.stack_machine.proofs.inference.terms_on.Goals as goal

pub returns-in_err-list : goal.returns-in_err-list
returns-in_err-list c = elements-unread as_term c.args.store.now _ _ _ _ _ _ c.from_residual.ensures.1 (c.in_err-list.ensures c.args.store.now).refused

pub terms_in-requires : goal.terms_in-requires
terms_in-requires c = (c.in_ok-list.ensures c.args.store.now).known c.requires

pub returns : goal.returns
returns c = elements-read as_term c.args.store.now _ _ _ _ c.in_ok-list.list _ (c.in_ok-list.ensures c.args.store.now) c.terms_in.ensures.terms
    c.terms_in.ensures.known c.terms_in.ensures.refused
