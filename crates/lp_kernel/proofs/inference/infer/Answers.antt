use Rattle.std.proofs.Common.{arith, refl, true}
use Rattle.lp_kernel.specs.declared.state.Next.TheVariants as next
use Rattle.lp_kernel.specs.declared.inference.Inferred.TheVariants as inferred
use Rattle.lp_kernel.proofs.Sound.{inferred-sound}
use Rattle.lp_kernel.proofs.Levels.{empty-products}
use Rattle.lp_kernel.proofs.Reached.{AreProducts-Grows}
use Rattle.lp_kernel.proofs.LiftedLaws.{AreLifts-nil, AreLifts-Keeps}
use Rattle.lp_kernel.proofs.Looped.{start-loop, next-loop, told-loop, found-end, no-end, over-end}
use Rattle.lp_kernel.proofs.inference.infer.Goals as goal

pub loop-next-init : goal.loop-next-init
loop-next-init c = start-loop true _ c.args.ctx.now c.args.id _ _ c.requires.held c.requires.context c.requires.id c.in_ok-of.ensures c.new.ensures.empty
    c.new-turns.result c.new-turns.ensures.rechecks (empty-products _ _ c.new-turns.result.products c.new-turns.ensures.products) c.new-lifts.result
    (AreLifts-nil _ c.new-lifts.result c.new-lifts.ensures)

pub loop-next-preserved-in-Ask : goal.loop-next-preserved-in-Ask
loop-next-preserved-in-Ask c =
    next-loop true _ c.loop-next.base _ c.args.ctx.now c.args.id _ c.loop-next.budget.left _ c.loop-next.state _ (next.Ask c.in-Ask.tree) _ c.loop-next.turns
    c.loop-next.turns c.loop-next.lifts c.ask.new.lifts (rw c.in-Ask.is at c.loop-next.invariant) refl (λ e. cc) c.ask.ensures.grows
    c.in_ok-next-in-Ask.ensures.known
    c.in_ok-next-in-Ask.ensures.next c.ask.ensures.less (c.in_ok-next-in-Ask.ensures.turned true)
    (AreProducts-Grows _ _ c.loop-next.turns.products c.loop-next.invariant.held c.ask.ensures.grows c.loop-next.invariant.products)
    c.in_ok-next-in-Ask.ensures.lifts

pub loop-next-preserved-in-Some : goal.loop-next-preserved-in-Some
loop-next-preserved-in-Some c =
    told-loop true _ c.loop-next.base _ c.args.ctx.now c.args.id _ c.loop-next.budget.left _ c.loop-next.state _ c.in-Tell.found _ c.in-Some.frame
    c.pop.new.self c.loop-next.turns c.tell.new.turns c.loop-next.lifts (rw c.in-Tell.is at c.loop-next.invariant) c.tell.ensures.rechecks
    c.in-Some.ensures.popped c.tell.ensures.grows
    c.in_ok-next-in-Some.ensures.known c.in_ok-next-in-Some.ensures.next c.tell.ensures.less c.in_ok-next-in-Some.ensures.turned
    c.in_ok-next-in-Some.ensures.products

pub returns-in-None-clause-answered : goal.returns-in-None-clause-answered
returns-in-None-clause-answered c = found-end true _ c.loop-next.base c.args.ctx.now c.args.id c.in-Tell.found _ _ c.loop-next.state c.requires.held
    (rw c.in-Tell.is at c.loop-next.invariant) c.in-None.ensures.popped

pub returns-in-No-clause-answered : goal.returns-in-No-clause-answered
returns-in-No-clause-answered c = no-end true _ c.loop-next.base c.args.ctx.now c.args.id _ _ c.loop-next.state c.requires.held
    (rw c.in-No.is at c.loop-next.invariant)

pub returns-in-None-clause-sound : goal.returns-in-None-clause-sound
returns-in-None-clause-sound c = inferred-sound true _ c.args.ctx.now c.args.id c.loop-next.base.table _ _ (inferred.Found c.in-Tell.found)
    (found-end true _ c.loop-next.base c.args.ctx.now c.args.id c.in-Tell.found _ _ c.loop-next.state c.requires.held (rw c.in-Tell.is at c.loop-next.invariant)
    c.in-None.ensures.popped)

pub returns-in-Over-clause-answered : goal.returns-in-Over-clause-answered
returns-in-Over-clause-answered c = over-end true _ c.loop-next.base c.args.ctx.now c.args.id _ c.loop-next.budget.left c.loop-next.state c.requires.held
    (rw c.in-Over.is at c.loop-next.invariant)

pub loop-next-preserved : goal.loop-next-preserved
loop-next-preserved c =
    next-loop true _ c.loop-next.base _ c.args.ctx.now c.args.id _ c.loop-next.budget.left _ c.loop-next.state _
    (next.Under c.in-Under.b c.in-Under.k c.in-Under.f) _ c.loop-next.turns c.loop-next.turns c.loop-next.lifts c.loop-next.lifts
    (rw c.in-Under.is at c.loop-next.invariant) refl (λ e. cc) c.under.ensures.grows c.in_ok-next-in-Under.ensures.known
    c.in_ok-next-in-Under.ensures.next (omega arith) (c.in_ok-next-in-Under.ensures.turned true c.loop-next.budget.left)
    (AreProducts-Grows _ _ c.loop-next.turns.products c.loop-next.invariant.held c.under.ensures.grows c.loop-next.invariant.products)
    (AreLifts-Keeps c.under.ensures.grows.keeps c.loop-next.lifts c.loop-next.invariant.lifts)
