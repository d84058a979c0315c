use Rattle.std.proofs.Common.{◌∙◌, arith}
use Rattle.compose.specs.Pools.{is_same_at}
use Rattle.compose.proofs.PoolLaws.{found-step, found-none, found-later, read-step}
use Rattle.compose.proofs.pool.Pool.find_among.Goals as goal

pub returns-in_err-place : goal.returns-in_err-place
returns-in_err-place c trees d l k = c.from_residual.ensures ∙ found-none (is_same_at trees c.args.sequent.now) c.args.self.now c.args.count
    (c.in_err-place.ensures.first trees d l k)

pub returns-then-place-count : goal.returns-then-place-count
returns-then-place-count c trees d l k =
    found-step (is_same_at trees c.args.sequent.now) c.args.self.now c.args.count c.in_ok-place.place c.index.result.now
    (c.in_ok-place.ensures.first trees d l k) c.if-place-count.true
    (read-step c.args.self.now c.self.inside.held.items c.self.inside.steps.items c.in_ok-place.place c.index.result.now c.self.invariant.numbered
    c.self.view_is c.in_ok-place.ensures.within c.index.ensures)

pub returns-else-place-count : goal.returns-else-place-count
returns-else-place-count c trees d l k = found-later (is_same_at trees c.args.sequent.now) c.args.self.now c.args.count c.in_ok-place.place
    (c.in_ok-place.ensures.first trees d l k) (omega (arith, c.if-place-count.false))
