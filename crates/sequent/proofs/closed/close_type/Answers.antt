use Rattle.std.proofs.Common.{subst}
use Rattle.hol_spec.specs.ClosedForm.{close_type}
use Rattle.hol_type.specs.Tables.{tree_at}
use Rattle.sequent.specs.Closing.{IsTypeWalk}
use Rattle.sequent.proofs.Turns.{type_walk_ends}
use Rattle.sequent.proofs.closed.close_type.Goals as goal

pub loop-next-preserved : goal.loop-next-preserved
loop-next-preserved c =
    let trees = c.args.types.now in
    let names = c.args.names.now in
    c.in_ok-visit_type.ensures.walk _
    (subst (λ tasks. IsTypeWalk trees names (close_type names (tree_at trees c.args.id.0)) tasks c.loop-next.nodes.items) c.in-Some.ensures.popped
    c.loop-next.invariant)

pub returns : goal.returns
returns c =
    let trees = c.args.types.now in
    let names = c.args.names.now in
    let root = close_type names (tree_at trees c.args.id.0) in
    type_walk_ends trees names root c.loop-next.nodes.items
    (subst (λ tasks. IsTypeWalk trees names root tasks c.loop-next.nodes.items) c.in_default.ensures.popped c.loop-next.invariant)
