use Rattle.std.proofs.Common.{arith}
use Rattle.lp_conv.specs.BudgetLaws.{ticked}
use Rattle.lp_conv.specs.GrowthLaws.{IsHeld-Grows}
use Rattle.lp_kernel.proofs.Asked.{IfOk-map, known-state, known-pushed}
use Rattle.lp_kernel.proofs.Told.{same-tree, other-tree, told-same, told-other, told-met, other-still, filled-here, filled-still}
use Rattle.lp_kernel.proofs.tells.tell_argument.Goals as goal

pub returns-then-eq-clause-known : goal.returns-then-eq-clause-known
returns-then-eq-clause-known c = known-state c.filled_as.ensures.grows.keeps _ c.requires.known

pub returns-then-eq-clause-turned : goal.returns-then-eq-clause-turned
returns-then-eq-clause-turned c =
    told-same c.args.turns.now.rechecks _ c.filled_as.new.base.table _ _ c.args.argument c.args.found c.in_ok-domain.domain c.in-Some.count _
    (filled-here c.filled_as.ensures.grows.keeps.stays c.args.argument.domain c.args.argument.count c.args.argument.app.function c.in_ok-domain.domain
    c.requires.frame.0 c.requires.frame.2.function c.in_ok-domain.ensures.is)
    (same-tree _ c.in_ok-domain.domain c.args.found c.if-eq.ensures) (omega (arith, c.in-Some.ensures))
    (omega (arith, ticked _ _ _ c.tick.ensures.taken c.tick.ensures.spent c.if-not-tick.false))

pub returns-clause-turned : goal.returns-clause-turned
returns-clause-turned c =
    told-other c.args.turns.now.rechecks _ c.filled_as.new.base.table _ _ c.if-not-turns.false c.args.argument c.args.found c.in_ok-domain.domain
    c.in-Some.count _ _
    (filled-here c.filled_as.ensures.grows.keeps.stays c.args.argument.domain c.args.argument.count c.args.argument.app.function c.in_ok-domain.domain
    c.requires.frame.0 c.requires.frame.2.function c.in_ok-domain.ensures.is)
    (other-tree _ c.in_ok-domain.domain c.args.found (IsHeld-Grows _ _ c.filled_as.ensures.grows c.requires.held).distinct c.in_ok-domain.ensures.known
    (omega (arith, c.filled_as.ensures.grows.keeps.longer, c.requires.found)) c.if-eq.ensures)
    (omega (arith, c.in-Some.ensures)) c.in_ok-push.ensures.pushed (omega (arith, ticked _ _ _ c.tick.ensures.taken c.tick.ensures.spent c.if-not-tick.false))

pub returns-clause-known : goal.returns-clause-known
returns-clause-known c =
    let longer = c.filled_as.ensures.grows.keeps.longer in
    known-pushed _ c.args.state.now _ _ (known-state c.filled_as.ensures.grows.keeps _ c.requires.known) (
      c.in_ok-domain.ensures.known,
      omega (arith, longer, c.requires.frame.1),
      omega (arith, longer, c.requires.frame.2.whole),
      omega (arith, longer, c.requires.found),
    ) c.in_ok-push.ensures.pushed

pub convert-requires : goal.convert-requires
convert-requires c =
    let longer = c.filled_as.ensures.grows.keeps.longer in
    record {
      held = IsHeld-Grows _ _ c.filled_as.ensures.grows c.requires.held;
      known = known-state c.filled_as.ensures.grows.keeps _ c.requires.known;
      frame = (
        c.in_ok-domain.ensures.known,
        omega (arith, longer, c.requires.frame.1),
        omega (arith, longer, c.requires.frame.2.whole),
        omega (arith, longer, c.requires.found),
      );
    }

pub returns-then-not-turns-clause-turned : goal.returns-then-not-turns-clause-turned
returns-then-not-turns-clause-turned c =
    let longer = c.filled_as.ensures.grows.keeps.longer in
    let stays = c.convert.ensures.grows.keeps.stays in
    IfOk-map c.convert.result
    (λ n h.
    told-met c.args.turns.now.rechecks c.if-not-turns.true c.convert.new.base c.args.state.now c.args.argument c.args.found c.in_ok-domain.domain
    c.in-Some.count _ c.tick.new.self.left _ n
    (filled-still stays c.args.argument.domain c.args.argument.count c.args.argument.app.function c.in_ok-domain.domain
    (omega (arith, longer, c.requires.frame.0)) (omega (arith, longer, c.requires.frame.2.function)) c.in_ok-domain.ensures.known
    (filled-here c.filled_as.ensures.grows.keeps.stays c.args.argument.domain c.args.argument.count c.args.argument.app.function c.in_ok-domain.domain
    c.requires.frame.0 c.requires.frame.2.function c.in_ok-domain.ensures.is))
    (other-still stays c.in_ok-domain.domain c.args.found c.in_ok-domain.ensures.known (omega (arith, longer, c.requires.found))
    (other-tree _ c.in_ok-domain.domain c.args.found (IsHeld-Grows _ _ c.filled_as.ensures.grows c.requires.held).distinct c.in_ok-domain.ensures.known
    (omega (arith, longer, c.requires.found)) c.if-eq.ensures))
    (omega (arith, c.in-Some.ensures)) (omega (arith, ticked _ _ _ c.tick.ensures.taken c.tick.ensures.spent c.if-not-tick.false)) c.convert.ensures.less
    (h c.args.turns.now.rechecks))
    c.convert.ensures.turned
