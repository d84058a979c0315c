use Rattle.std.proofs.Common.{subst}
use Rattle.hol_spec.specs.ClosedForm.{close_term}
use Rattle.hol_term.specs.Subterms.{variables_of}
use Rattle.hol_term.specs.Tables.{term_at}
use Rattle.sequent.specs.Closing.{IsWalk}
use Rattle.sequent.proofs.Turns.{walk_ends}
use Rattle.sequent.proofs.closed.close_term.Goals as goal

pub loop-next-preserved : goal.loop-next-preserved
loop-next-preserved c =
    let trees = c.args.table.now in
    let names = c.args.params.now.type_vars in
    let variables = variables_of trees c.args.params.now.free_vars in
    c.in_ok-visit.ensures.walk _
    (subst (λ tasks. IsWalk trees names variables (close_term names variables (term_at trees c.args.id.0)) tasks c.loop-next.nodes.items)
    c.in-Some.ensures.popped c.loop-next.invariant)

pub returns : goal.returns
returns c =
    let trees = c.args.table.now in
    let names = c.args.params.now.type_vars in
    let variables = variables_of trees c.args.params.now.free_vars in
    let root = close_term names variables (term_at trees c.args.id.0) in
    walk_ends trees names variables root c.loop-next.nodes.items
    (subst (λ tasks. IsWalk trees names variables root tasks c.loop-next.nodes.items) c.in_default.ensures.popped c.loop-next.invariant)
