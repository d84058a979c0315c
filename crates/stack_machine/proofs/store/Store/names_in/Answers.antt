use Rattle.std.proofs.Common.{ap, subst, ◌∙◌, arith}
use Rattle.article_spec.specs.Operands.{as_name}
use Rattle.stack_machine.specs.Stored.{IsListKnown, list_view, object_view, rank}
use Rattle.stack_machine.proofs.Passing.{handed_on}
use Rattle.stack_machine.proofs.Elements.{none_read, one_read, all_read, other_read, none_left}
use Rattle.stack_machine.proofs.store.Store.names_in.Goals as goal

pub loop-rest-init : goal.loop-rest-init
loop-rest-init c = record { list = c.requires; read = rw c.new-names.ensures.items (none_read as_name _) }

pub cell-cell-requires : goal.cell-cell-requires
cell-cell-requires c = subst (IsListKnown c.args.self.now) c.in-Cell.is c.loop-rest.invariant.list

pub returns-in_err-name-clause-refused : goal.returns-in_err-name-clause-refused
returns-in_err-name-clause-refused c = handed_on _ _ _ c.from_residual.ensures.1
    (other_read as_name _ _ _ _ _ (object_view c.args.self.now c.cell-cell.result.head) (ap (list_view c.args.self.now) c.in-Cell.is ∙ c.cell-cell.ensures.is)
    (c.in_err-name.ensures c.args.self.now).refused c.loop-rest.invariant.read)

pub name-requires : goal.name-requires
name-requires c = (c.in_ok-name.ensures c.args.self.now).known c.cell-cell.ensures.head

pub loop-rest-smaller : goal.loop-rest-smaller
loop-rest-smaller c = let e = ap rank c.in-Cell.is in omega (arith, e, c.cell-cell.ensures.lower)

pub loop-rest-preserved : goal.loop-rest-preserved
loop-rest-preserved c = record {
  list = c.cell-cell.ensures.tail;
  read = rw (c.in_ok-push.ensures.items, c.in_ok-name-2.ensures)
      (one_read as_name _ _ _ _ (object_view c.args.self.now c.cell-cell.result.head) _ (ap (list_view c.args.self.now) c.in-Cell.is ∙ c.cell-cell.ensures.is)
      (c.in_ok-name.ensures c.args.self.now).taken c.loop-rest.invariant.read);
}

pub returns-clause-names : goal.returns-clause-names
returns-clause-names c = all_read as_name _ _ _ (ap (list_view c.args.self.now) (none_left c.loop-rest.rest c.in_default.not-Cell)) c.loop-rest.invariant.read
