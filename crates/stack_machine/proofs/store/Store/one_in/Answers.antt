use Rattle.std.proofs.Common.{ap, subst, ◌∙◌}
use Rattle.article_spec.specs.State as state
use Rattle.stack_machine.specs.Reading.{one_object}
use Rattle.stack_machine.specs.Stored.{IsListKnown, list_view, object_view}
use Rattle.stack_machine.proofs.store.Store.one_in.Goals as goal

pub cell-cell-requires : goal.cell-cell-requires
cell-cell-requires c = subst (IsListKnown c.args.self.now) c.in-Cell.is c.requires

pub returns-in-Empty-clause-one : goal.returns-in-Empty-clause-one
returns-in-Empty-clause-one c = ap one_object (ap (list_view c.args.self.now) c.in-Cell.is ∙ c.cell-cell.ensures.is) ∙ ap
    (λ t. one_object (state.Objects.more (object_view c.args.self.now c.cell-cell.result.head) (list_view c.args.self.now t))) c.in-Empty.is
