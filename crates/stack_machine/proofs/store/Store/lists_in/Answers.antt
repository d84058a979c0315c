use Rattle.article_spec.specs.Operands.{as_list}
use Rattle.stack_machine.proofs.PutLists.{unread}
use Rattle.stack_machine.proofs.TwoObjects.{first-fails, pair-fails, pair-taken, second-fails}
use Rattle.stack_machine.proofs.store.Store.lists_in.Goals as goal

pub returns-in_err-first : goal.returns-in_err-first
returns-in_err-first c = unread _ _ c.from_residual.ensures.1 (pair-fails as_list as_list _ _ c.in_err-first.ensures.refused)

pub returns-in_err-types : goal.returns-in_err-types
returns-in_err-types c = unread _ _ c.from_residual-in_err-types.ensures.1
    (first-fails as_list as_list _ _ _ c.in_ok-first.ensures.two _ (c.in_err-types.ensures c.args.self.now).refused)

pub returns-in_err-terms : goal.returns-in_err-terms
returns-in_err-terms c = unread _ _ c.from_residual-in_err-terms.ensures.1
    (second-fails as_list as_list _ _ _ c.in_ok-first.ensures.two _ (c.in_ok-types.ensures c.args.self.now).taken _
    (c.in_err-terms.ensures c.args.self.now).refused)

pub returns : goal.returns
returns c =
    let types = c.in_ok-types.ensures c.args.self.now in
    let terms = c.in_ok-terms.ensures c.args.self.now in
    record {
      taken = pair-taken as_list as_list _ _ _ c.in_ok-first.ensures.two _ types.taken _ terms.taken;
      known = λ k. record { types = types.known c.in_ok-first.ensures.known.0; terms = terms.known c.in_ok-first.ensures.known.1 };
      refused = tt;
    }
