use Rattle.std.proofs.Common.{◌∙◌}
use Rattle.compose.specs.Pools.{is_same_at}
use Rattle.compose.proofs.PoolLaws.{found-step_of_all, found-none_of_all, read-step}
use Rattle.compose.proofs.pool.Pool.find.Goals as goal

pub returns-in_err-place : goal.returns-in_err-place
returns-in_err-place c trees d l k = c.from_residual.ensures ∙ found-none_of_all (is_same_at trees c.args.sequent.now) c.args.self.now
    (c.in_err-place.ensures.first trees d l k)

pub returns : goal.returns
returns c trees d l k =
    found-step_of_all (is_same_at trees c.args.sequent.now) c.args.self.now c.in_ok-place.place c.index.result.now (c.in_ok-place.ensures.first trees d l k)
    c.in_ok-place.ensures.within
    (read-step c.args.self.now c.self.inside.held.items c.self.inside.steps.items c.in_ok-place.place c.index.result.now c.self.invariant.numbered
    c.self.view_is c.in_ok-place.ensures.within c.index.ensures)
