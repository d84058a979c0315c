use Rattle.std.proofs.Common.{arith, ap, refl, sym, subst, ◌∙◌, ◌∷◌}
use Rattle.lp_kernel.specs.declared.state.State.{State}
use Rattle.lp_kernel.specs.declared.state.Next.TheVariants as next
use Rattle.lp_kernel.proofs.Levels.{IsNoting, start-noting, noting-turn, noting-same, noting-asked, noting-told, noting-inner, noting-found, noting-end, noting-last, noting-no, noting-over, are-closed}
use Rattle.lp_kernel.proofs.noting.infer_noted.Goals as goal

pub loop-next-init : goal.loop-next-init
loop-next-init c = start-noting c.args.memo.now.turns.rechecks c.args.base.now c.args.id c.args.budget.now.left c.new-outer.result _ c.args.memo.now
    c.requires.held c.requires.id c.requires.right c.in_ok-of.ensures refl c.new.ensures.empty c.new-outer.ensures.empty

pub loop-next-preserved-in-Found : goal.loop-next-preserved-in-Found
loop-next-preserved-in-Found c =
    noting-found c.args.memo.now.turns.rechecks c.args.base.now c.loop-next.base c.args.id c.args.budget.now.left c.loop-next.budget.left c.loop-next.outer
    c.loop-next.state c.requires.held c.requires.is_module c.in-Ask.tree c.in-Found.found c.take_up-next.new.budget.left c.take_up-next.result
    c.loop-next.memo (rw c.in-Ask.is at c.loop-next.invariant) (rw c.in-Found.is at c.look_up.ensures) c.take_up-next.ensures

pub loop-next-preserved-in-Unknown : goal.loop-next-preserved-in-Unknown
loop-next-preserved-in-Unknown c =
    noting-asked c.args.memo.now.turns.rechecks c.args.base.now c.loop-next.base c.args.id c.args.budget.now.left c.loop-next.budget.left c.push.new.self
    (record { context = c.loop-next.state.context; frames = c.replace-below.new.dest; key = c.loop-next.state.key }) c.ask.new.base c.ask.new.budget.left
    c.ask.new.state c.in-Ask.tree
    c.in_ok-next-in-Unknown.next c.loop-next.memo
    (noting-inner c.args.memo.now.turns.rechecks c.args.base.now c.loop-next.base c.args.id c.args.budget.now.left c.loop-next.budget.left c.loop-next.outer
    c.loop-next.state c.in-Ask.tree c.replace-below.new.dest c.push.new.self c.loop-next.memo (rw c.in-Ask.is at c.loop-next.invariant)
    (c.replace-below.ensures.after ∙ c.emptied-inner.ensures)
    (c.in_ok-push-in-Unknown.ensures.pushed ∙ ap (λ fs. record { id = c.in-Ask.tree; key = c.loop-next.state.key; frames = fs } ∷ c.loop-next.outer)
    c.replace-below.ensures.value))
    c.ask.ensures.grows c.in_ok-next-in-Unknown.ensures.known c.in_ok-next-in-Unknown.ensures.next c.ask.ensures.less
    (c.in_ok-next-in-Unknown.ensures.turned c.args.memo.now.turns.rechecks) c.ask.ensures.same c.ask.new.lifts c.in_ok-next-in-Unknown.ensures.lifts

pub loop-next-preserved-in-Function : goal.loop-next-preserved-in-Function
loop-next-preserved-in-Function c =
    noting-asked c.args.memo.now.turns.rechecks c.args.base.now c.loop-next.base c.args.id c.args.budget.now.left c.loop-next.budget.left c.loop-next.outer
    c.loop-next.state c.ask-in-Function.new.base c.ask-in-Function.new.budget.left c.ask-in-Function.new.state c.in-Ask.tree c.in_ok-next-in-Function.next
    c.loop-next.memo (rw c.in-Ask.is at c.loop-next.invariant) c.ask-in-Function.ensures.grows c.in_ok-next-in-Function.ensures.known
    c.in_ok-next-in-Function.ensures.next c.ask-in-Function.ensures.less (c.in_ok-next-in-Function.ensures.turned c.args.memo.now.turns.rechecks)
    c.ask-in-Function.ensures.same
    c.ask-in-Function.new.lifts c.in_ok-next-in-Function.ensures.lifts

pub loop-next-preserved-in-Other : goal.loop-next-preserved-in-Other
loop-next-preserved-in-Other c =
    noting-asked c.args.memo.now.turns.rechecks c.args.base.now c.loop-next.base c.args.id c.args.budget.now.left c.loop-next.budget.left c.loop-next.outer
    c.loop-next.state c.ask-in-Other.new.base c.ask-in-Other.new.budget.left c.ask-in-Other.new.state c.in-Ask.tree c.in_ok-next-in-Other.next
    c.loop-next.memo (rw c.in-Ask.is at c.loop-next.invariant) c.ask-in-Other.ensures.grows c.in_ok-next-in-Other.ensures.known
    c.in_ok-next-in-Other.ensures.next c.ask-in-Other.ensures.less (c.in_ok-next-in-Other.ensures.turned c.args.memo.now.turns.rechecks)
    c.ask-in-Other.ensures.same
    c.ask-in-Other.new.lifts c.in_ok-next-in-Other.ensures.lifts

pub loop-next-preserved-in-Some : goal.loop-next-preserved-in-Some
loop-next-preserved-in-Some c =
    noting-told c.args.memo.now.turns.rechecks c.args.base.now c.loop-next.base c.args.id c.args.budget.now.left c.loop-next.budget.left c.loop-next.outer
    c.loop-next.state c.tell.new.base c.tell.new.budget.left c.tell.new.state c.in-Tell.found c.in_ok-next-in-Some.next c.in-Some.frame c.pop.new.self
    c.loop-next.memo (rw c.in-Tell.is at c.loop-next.invariant) c.in-Some.ensures.popped c.tell.ensures.grows c.in_ok-next-in-Some.ensures.known
    c.in_ok-next-in-Some.ensures.next c.tell.ensures.less c.in_ok-next-in-Some.ensures.turned
    c.tell.new.turns c.tell.ensures.rechecks c.in_ok-next-in-Some.ensures.products c.tell.ensures.more c.in_ok-next-in-Some.ensures.keyed

pub loop-next-preserved-in-Some-pop : goal.loop-next-preserved-in-Some-pop
loop-next-preserved-in-Some-pop c =
    subst (λ fs. IsNoting c.args.memo.now.turns.rechecks c.args.base.now c.loop-next.base c.args.id c.args.budget.now.left c.loop-next.budget.left
    c.pop-in-None.new.self (record { context = c.loop-next.state.context; frames = fs; key = c.loop-next.state.key }) (next.Tell c.in-Tell.found)
    c.note_type.new.memo) (sym c.replace-ended.ensures.after)
    (noting-end c.args.memo.now.turns.rechecks c.args.base.now c.loop-next.base c.args.id c.args.budget.now.left c.loop-next.budget.left c.loop-next.outer
    c.loop-next.state c.in-Tell.found c.in-Some-pop.waiting c.pop-in-None.new.self c.loop-next.memo c.note_type.new.memo
    (rw c.in-Tell.is at c.loop-next.invariant) c.in-None.ensures.popped c.in-Some-pop.ensures.popped (omega (arith, c.if-waiting-state.false))
    c.note_type.ensures.same
    (λ fact. c.in_ok-note_type-in-Some-pop.ensures.right c.args.memo.now.turns.rechecks _
    (are-closed c.args.memo.now.turns.rechecks c.args.base.now c.loop-next.base c.args.id c.args.budget.now.left c.loop-next.budget.left c.loop-next.outer
    c.loop-next.state c.loop-next.invariant.grows c.requires.held c.requires.is_module) c.loop-next.invariant.right fact))

pub returns-in-None-pop-clause-answered : goal.returns-in-None-pop-clause-answered
returns-in-None-pop-clause-answered c =
    noting-last c.args.memo.now.turns.rechecks c.args.base.now c.loop-next.base c.args.id c.args.budget.now.left c.loop-next.budget.left c.loop-next.outer
    c.loop-next.state c.requires.held c.in-Tell.found c.loop-next.memo (rw c.in-Tell.is at c.loop-next.invariant) c.in-None.ensures.popped
    c.in-None-pop.ensures.popped

pub returns-in-No-clause-answered : goal.returns-in-No-clause-answered
returns-in-No-clause-answered c =
    noting-no c.args.memo.now.turns.rechecks c.args.base.now c.loop-next.base c.args.id c.args.budget.now.left c.loop-next.budget.left c.loop-next.outer
    c.loop-next.state c.requires.held c.loop-next.memo (rw c.in-No.is at c.loop-next.invariant)

pub returns-in-Over-clause-answered : goal.returns-in-Over-clause-answered
returns-in-Over-clause-answered c =
    noting-over c.args.memo.now.turns.rechecks c.args.base.now c.loop-next.base c.args.id c.args.budget.now.left c.loop-next.budget.left c.loop-next.outer
    c.loop-next.state c.requires.held c.loop-next.memo (rw c.in-Over.is at c.loop-next.invariant)

pub loop-next-preserved : goal.loop-next-preserved
loop-next-preserved c =
    noting-same c.args.memo.now.turns.rechecks c.args.base.now c.loop-next.base c.args.id c.args.budget.now.left c.loop-next.budget.left c.loop-next.outer
    c.loop-next.state c.under.new.base c.loop-next.budget.left c.under.new.state (next.Under c.in-Under.b c.in-Under.k c.in-Under.f)
    c.in_ok-next-in-Under.next
    c.loop-next.memo (rw c.in-Under.is at c.loop-next.invariant) (λ e. cc) c.under.ensures.grows c.in_ok-next-in-Under.ensures.known
    c.in_ok-next-in-Under.ensures.next (omega arith) (c.in_ok-next-in-Under.ensures.turned c.args.memo.now.turns.rechecks c.loop-next.budget.left)
    c.under.ensures.same
