use Rattle.std.proofs.Common.{ap, subst, ◌∙◌}
use Rattle.std.specs.Option.{ok_or}
use Rattle.common.specs.declared.faults.Kind.TheVariants.{WrongKind}
use Rattle.stack_machine.specs.Reading.{two_of, with_first}
use Rattle.stack_machine.specs.Stored.{IsListKnown, list_view, object_view}
use Rattle.stack_machine.proofs.Passing.{handed_on}
use Rattle.stack_machine.proofs.TwoObjects.{two_objects-fails, two_objects-list, two_of-one}
use Rattle.stack_machine.proofs.store.Store.two_in.Goals as goal

pub returns-in_err-list-clause-refused : goal.returns-in_err-list-clause-refused
returns-in_err-list-clause-refused c = handed_on _ _ _ c.from_residual.ensures.1 (two_objects-fails _ _ (c.in_err-list.ensures c.args.self.now).refused)

pub returns-in_default-clause-refused : goal.returns-in_default-clause-refused
returns-in_default-clause-refused c =
    let m = c.args.self.now in
    ap (λ o. ok_or o WrongKind) (two_objects-list _ _ (c.in_ok-list.ensures m).taken ∙ ap (λ xs. two_of (list_view m xs)) c.in_default.is)

pub cell-cell-requires : goal.cell-cell-requires
cell-cell-requires c = subst (IsListKnown c.args.self.now) c.in-Cell.is ((c.in_ok-list.ensures c.args.self.now).known c.requires)

pub one_in-requires : goal.one_in-requires
one_in-requires c = c.cell-cell.ensures.tail

pub returns-in_err-second-clause-refused : goal.returns-in_err-second-clause-refused
returns-in_err-second-clause-refused c =
    let m = c.args.self.now in
    let listed = two_objects-list _ _ (c.in_ok-list.ensures m).taken ∙ ap two_of (ap (list_view m) c.in-Cell.is ∙ c.cell-cell.ensures.is) in
    handed_on _ _ _ c.from_residual-in_err-second.ensures.1
    (rw listed (two_of-one (list_view m c.cell-cell.result.tail) (object_view m c.cell-cell.result.head) _ c.in_err-second.ensures.refused))

pub returns-clause-two : goal.returns-clause-two
returns-clause-two c =
    let m = c.args.self.now in
    two_objects-list _ _ (c.in_ok-list.ensures m).taken ∙ ap two_of (ap (list_view m) c.in-Cell.is ∙ c.cell-cell.ensures.is)
    ∙ ap (with_first (object_view m c.cell-cell.result.head)) c.in_ok-second.ensures.one

pub returns-clause-known : goal.returns-clause-known
returns-clause-known c = (c.cell-cell.ensures.head, c.in_ok-second.ensures.known)
