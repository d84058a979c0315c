use Rattle.std.proofs.Common.{ap, subst, ◌∙◌, arith}
use Rattle.article_spec.specs.Operands.{as_term}
use Rattle.stack_machine.specs.Stored.{IsListKnown, list_view, object_view, rank}
use Rattle.stack_machine.proofs.Passing.{handed_on}
use Rattle.stack_machine.proofs.Elements.{none_read, one_read, all_read, other_read, terms_at-push, AreTermsAt-push, none_left}
use Rattle.stack_machine.proofs.store.Store.terms_in.Goals as goal

pub loop-rest-init : goal.loop-rest-init
loop-rest-init c = record { list = c.requires; terms = rw c.new-terms.ensures.items tt; read = rw c.new-terms.ensures.items (none_read as_term _) }

pub cell-cell-requires : goal.cell-cell-requires
cell-cell-requires c = subst (IsListKnown c.args.self.now) c.in-Cell.is c.loop-rest.invariant.list

pub returns-in_err-term_in-clause-refused : goal.returns-in_err-term_in-clause-refused
returns-in_err-term_in-clause-refused c = handed_on _ c.in_err-term_in.field-0.0 _ c.from_residual.ensures.1
    (other_read as_term c.in_err-term_in.field-0.0 _ _ _ _ (object_view c.args.self.now c.cell-cell.result.head)
    (ap (list_view c.args.self.now) c.in-Cell.is ∙ c.cell-cell.ensures.is) (c.in_err-term_in.ensures c.args.self.now).refused c.loop-rest.invariant.read)

pub loop-rest-smaller : goal.loop-rest-smaller
loop-rest-smaller c = let e = ap rank c.in-Cell.is in omega (arith, e, c.cell-cell.ensures.lower)

pub loop-rest-preserved : goal.loop-rest-preserved
loop-rest-preserved c =
    let id = c.in_ok-term_in.field-0 in
    record {
      list = c.cell-cell.ensures.tail;
      terms = rw c.in_ok-push.ensures.items
          (AreTermsAt-push c.args.self.now.trees _ id c.loop-rest.invariant.terms
          ((c.in_ok-term_in.ensures c.args.self.now).known c.cell-cell.ensures.head).typed);
      read = rw (c.in_ok-push.ensures.items, terms_at-push c.args.self.now.trees c.loop-rest.terms.items id)
          (one_read as_term _ _ _ _ (object_view c.args.self.now c.cell-cell.result.head) _
          (ap (list_view c.args.self.now) c.in-Cell.is ∙ c.cell-cell.ensures.is) (c.in_ok-term_in.ensures c.args.self.now).taken
          c.loop-rest.invariant.read);
    }

pub returns-clause-terms : goal.returns-clause-terms
returns-clause-terms c = all_read as_term _ _ _ (ap (list_view c.args.self.now) (none_left c.loop-rest.rest c.in_default.not-Cell)) c.loop-rest.invariant.read

pub returns-clause-known : goal.returns-clause-known
returns-clause-known c = c.loop-rest.invariant.terms
