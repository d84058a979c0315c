use Rattle.std.proofs.Common.{arith}
use Rattle.lp_conv.specs.BudgetLaws.{ticked, not_ticked}
use Rattle.lp_kernel.proofs.Reached.{IsProductOf-IsProduct, IsProductOf-IsOver, AreProducts-Grows, AreProducts-noted}
use Rattle.lp_kernel.proofs.products.reach_noted.Goals as goal

pub returns-then-tick-clause-known : goal.returns-then-tick-clause-known
returns-then-tick-clause-known c = (c.requires.products.each c.args.id c.in-Some.product c.in-Some.ensures.noted).found_known

pub returns-then-tick-clause-answered : goal.returns-then-tick-clause-answered
returns-then-tick-clause-answered c =
    IsProductOf-IsProduct c.args.base.now c.args.id c.in-Some.product c.args.budget.now.left c.tick.new.self.left
    (omega (arith, ticked _ _ _ c.tick.ensures.taken c.tick.ensures.spent c.if-tick.true))
    (c.requires.products.each c.args.id c.in-Some.product c.in-Some.ensures.noted)

pub returns-in-Some-clause-answered : goal.returns-in-Some-clause-answered
returns-in-Some-clause-answered c = IsProductOf-IsOver c.args.base.now c.args.id c.in-Some.product c.args.budget.now.left
    (not_ticked _ _ _ c.tick.ensures.taken c.if-tick.false) (c.requires.products.each c.args.id c.in-Some.product c.in-Some.ensures.noted)

pub returns-in_ok-note-clause-products : goal.returns-in_ok-note-clause-products
returns-in_ok-note-clause-products c =
    AreProducts-noted c.args.base.now c.reach.new.base c.args.products.now c.note.new.self c.args.id c.in-Found.product c.args.budget.now.left
    c.reach.new.budget.left c.requires.held c.reach.ensures.grows c.requires.products c.requires.id (rw c.in-Found.is at c.in_ok-reached.ensures.known)
    (omega (arith, c.if-budget-before.true)) (rw c.in-Found.is at c.in_ok-reached.ensures.answered) c.in_ok-note.ensures.noted

pub returns-else-budget-before-clause-products : goal.returns-else-budget-before-clause-products
returns-else-budget-before-clause-products c = AreProducts-Grows c.args.base.now c.reach.new.base c.args.products.now c.requires.held c.reach.ensures.grows
    c.requires.products

pub returns-in_default-reached : goal.returns-in_default-reached
returns-in_default-reached c = record {
  grows = c.reach.ensures.grows;
  known = c.in_ok-reached.ensures.known;
  less = c.reach.ensures.less;
  answered = c.in_ok-reached.ensures.answered;
  products = AreProducts-Grows c.args.base.now c.reach.new.base c.args.products.now c.requires.held c.reach.ensures.grows c.requires.products;
}
