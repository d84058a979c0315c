use Rattle.std.proofs.Common.{refl, arith, ap, length}
use Rattle.lp_kernel.proofs.Asked.{IfOk-map, known-state, known-pushed, known-application}
use Rattle.lp_kernel.proofs.Told.{told-product, told-reached, told-unchecked, told-unreached, told-over}
use Rattle.lp_conv.specs.GrowthLaws.{IsHeld-Grows}
use Rattle.lp_kernel.proofs.tells.tell_function.Goals as goal

pub returns-in-Pi-clause-turned : goal.returns-in-Pi-clause-turned
returns-in-Pi-clause-turned c = told-product c.args.turns.now.rechecks _ _ _ _ c.args.app c.args.found c.in-Pi.a c.in-Pi.b _ _ c.in-Pi.ensures.is
    c.requires.application c.in_ok-push.ensures.pushed (omega arith)

pub returns-in_ok-push-in-Found : goal.returns-in_ok-push-in-Found
returns-in_ok-push-in-Found c =
    let keeps = c.reach_noted.ensures.grows.keeps in
    let answered = rw c.in-Found.is at c.in_ok-product.ensures.answered in
    let known = rw c.in-Found.is at c.in_ok-product.ensures.known in
    record {
      grows = c.reach_noted.ensures.grows;
      known = known-pushed _ c.args.state.now _ _ (known-state keeps _ c.requires.known) (known, known-application keeps c.args.app c.requires.application)
          c.in_ok-push-in-Found.ensures.pushed;
      next = known;
      less = c.reach_noted.ensures.less;
      turned = told-reached c.args.turns.now.rechecks _ _ _ _ _ c.args.app c.args.found c.view.result c.if-not-turns.false c.in-Found.product _ _ keeps.stays
          c.requires.found c.view.ensures.is c.in_default.not-Pi answered c.in_ok-push-in-Found.ensures.pushed;
      fewer = omega (arith, c.reach_noted.ensures.less, ap length c.in_ok-push-in-Found.ensures.pushed);
      products = c.in_ok-product.ensures.products;
      rechecks = refl;
      contexts = refl;
      same = record { context = refl; key = refl };
    }

pub returns-in-No : goal.returns-in-No
returns-in-No c =
    let keeps = c.reach_noted.ensures.grows.keeps in
    record {
      grows = c.reach_noted.ensures.grows;
      known = known-state keeps _ c.requires.known;
      next = tt;
      less = c.reach_noted.ensures.less;
      turned = told-unreached c.args.turns.now.rechecks _ _ _ _ _ c.args.app c.args.found c.view.result _ keeps.stays c.requires.found c.view.ensures.is
          c.in_default.not-Pi (rw c.in-No.is at c.in_ok-product.ensures.answered);
      fewer = omega (arith, c.reach_noted.ensures.less);
      products = c.in_ok-product.ensures.products;
      rechecks = refl;
      contexts = refl;
      same = record { context = refl; key = refl };
    }

pub returns-in-Over : goal.returns-in-Over
returns-in-Over c =
    let keeps = c.reach_noted.ensures.grows.keeps in
    record {
      grows = c.reach_noted.ensures.grows;
      known = known-state keeps _ c.requires.known;
      next = tt;
      less = c.reach_noted.ensures.less;
      turned = told-over c.args.turns.now.rechecks _ _ _ c.args.state.now.context c.args.state.now.frames c.args.app c.args.found c.view.result _ keeps.stays
          c.requires.found c.view.ensures.is c.in_default.not-Pi (rw c.in-Over.is at c.in_ok-product.ensures.answered);
      fewer = omega (arith, c.reach_noted.ensures.less);
      products = c.in_ok-product.ensures.products;
      rechecks = refl;
      contexts = refl;
      same = record { context = refl; key = refl };
    }

pub to_argument-requires : goal.to_argument-requires
to_argument-requires c =
    let keeps = c.reach_noted.ensures.grows.keeps in
    record {
      held = IsHeld-Grows _ _ c.reach_noted.ensures.grows c.requires.held;
      known = known-state keeps _ c.requires.known;
      product = rw c.in-Found.is at c.in_ok-product.ensures.known;
      application = known-application keeps c.args.app c.requires.application;
    }

pub returns-then-not-turns : goal.returns-then-not-turns
returns-then-not-turns c = record {
  grows = c.reach_noted.ensures.grows;
  known = c.to_argument.ensures.known;
  next = c.to_argument.ensures.next;
  less = c.reach_noted.ensures.less;
  turned =
      IfOk-map c.to_argument.result
      (λ n h.
      told-unchecked c.args.turns.now.rechecks c.if-not-turns.true c.reach_noted.new.base c.args.base.now.table c.args.state.now c.to_argument.new.state
      c.args.app c.args.found c.in-Found.product c.view.result _ _ n c.reach_noted.ensures.grows.keeps.stays c.requires.found c.view.ensures.is
      c.in_default.not-Pi (rw c.in-Found.is at c.in_ok-product.ensures.answered) c.reach_noted.ensures.less
      (h c.args.turns.now.rechecks c.reach_noted.new.budget.left))
      c.to_argument.ensures.turned;
  fewer = IfOk-map c.to_argument.result (λ n h. let f = h c.reach_noted.new.budget.left in omega (arith, f, c.reach_noted.ensures.less))
      c.to_argument.ensures.fewer;
  products = IfOk-map c.to_argument.result (λ n h. c.in_ok-product.ensures.products) c.to_argument.ensures.fewer;
  rechecks = refl;
  contexts = refl;
  same = c.to_argument.ensures.same;
}
