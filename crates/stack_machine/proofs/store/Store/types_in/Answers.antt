use Rattle.std.proofs.Common.{ap, subst, ◌∙◌, arith}
use Rattle.article_spec.specs.Operands.{as_type}
use Rattle.stack_machine.specs.Stored.{IsListKnown, list_view, object_view, rank}
use Rattle.stack_machine.proofs.Passing.{handed_on}
use Rattle.stack_machine.proofs.Elements.{none_read, one_read, all_read, other_read, types_at-push, known-push, none_left}
use Rattle.stack_machine.proofs.store.Store.types_in.Goals as goal

pub loop-rest-init : goal.loop-rest-init
loop-rest-init c = record { list = c.requires; types = rw c.new-types.ensures.items tt; read = rw c.new-types.ensures.items (none_read as_type _) }

pub cell-cell-requires : goal.cell-cell-requires
cell-cell-requires c = subst (IsListKnown c.args.self.now) c.in-Cell.is c.loop-rest.invariant.list

pub returns-in_err-type_in-clause-refused : goal.returns-in_err-type_in-clause-refused
returns-in_err-type_in-clause-refused c = handed_on _ c.in_err-type_in.field-0.0 _ c.from_residual.ensures.1
    (other_read as_type c.in_err-type_in.field-0.0 _ _ _ _ (object_view c.args.self.now c.cell-cell.result.head)
    (ap (list_view c.args.self.now) c.in-Cell.is ∙ c.cell-cell.ensures.is) (c.in_err-type_in.ensures c.args.self.now).refused c.loop-rest.invariant.read)

pub loop-rest-smaller : goal.loop-rest-smaller
loop-rest-smaller c = let e = ap rank c.in-Cell.is in omega (arith, e, c.cell-cell.ensures.lower)

pub loop-rest-preserved : goal.loop-rest-preserved
loop-rest-preserved c =
    let id = c.in_ok-type_in.field-0 in
    record {
      list = c.cell-cell.ensures.tail;
      types = rw c.in_ok-push.ensures.items
          (known-push _ _ id c.loop-rest.invariant.types ((c.in_ok-type_in.ensures c.args.self.now).known c.cell-cell.ensures.head));
      read = rw (c.in_ok-push.ensures.items, types_at-push c.args.self.now.trees.types c.loop-rest.types.items id)
          (one_read as_type _ _ _ _ (object_view c.args.self.now c.cell-cell.result.head) _
          (ap (list_view c.args.self.now) c.in-Cell.is ∙ c.cell-cell.ensures.is) (c.in_ok-type_in.ensures c.args.self.now).taken
          c.loop-rest.invariant.read);
    }

pub returns-clause-types : goal.returns-clause-types
returns-clause-types c = all_read as_type _ _ _ (ap (list_view c.args.self.now) (none_left c.loop-rest.rest c.in_default.not-Cell)) c.loop-rest.invariant.read

pub returns-clause-known : goal.returns-clause-known
returns-clause-known c = c.loop-rest.invariant.types
