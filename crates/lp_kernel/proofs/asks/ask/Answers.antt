use Rattle.std.proofs.Common.{arith, refl, None}
use Rattle.lp_spec.specs.Trees.{SortType, SortKind, Var}
use Rattle.lp_term.specs.TableLaws.{Keeps-refl}
use Rattle.lp_kernel.specs.declared.state.Next.TheVariants as next
use Rattle.lp_conv.specs.BudgetLaws.{ticked}
use Rattle.lp_kernel.proofs.Asked.{asked-application, asked-abstraction, asked-product, asked-symbol, asked-leaf, known-state, known-pushed, IfOk-map}
use Rattle.lp_kernel.proofs.LiftedLaws.{AreLifts-Keeps}
use Rattle.lp_kernel.proofs.asks.ask.Goals as goal

pub returns-in_ok-push-in-App-clause-turned : goal.returns-in_ok-push-in-App-clause-turned
returns-in_ok-push-in-App-clause-turned c = λ rechecks. asked-application rechecks _ _ _ _ _ c.args.id _ c.in-App.f c.in-App.x c.in-App.ensures.is
    c.in_ok-push-in-App.ensures.pushed (omega (arith, ticked _ _ _ c.tick.ensures.taken c.tick.ensures.spent c.if-not-tick.false))

pub returns-in_ok-push-in-App-clause-known : goal.returns-in_ok-push-in-App-clause-known
returns-in_ok-push-in-App-clause-known c =
    known-pushed _ c.args.state.now _ _ c.requires.known
    (record {
      function = omega (arith, c.in-App.ensures.lower.0, c.requires.id);
      argument = omega (arith, c.in-App.ensures.lower.1, c.requires.id);
      whole =
          c.requires.id;
      is = c.in-App.ensures.is;
    }) c.in_ok-push-in-App.ensures.pushed

pub returns-in_ok-push-in-Lam-clause-turned : goal.returns-in_ok-push-in-Lam-clause-turned
returns-in_ok-push-in-Lam-clause-turned c = λ rechecks. asked-abstraction rechecks _ _ _ _ _ c.args.id _ c.in-Lam.a c.in-Lam.b c.in-Lam.ensures.is
    c.in_ok-push-in-Lam.ensures.pushed (omega (arith, ticked _ _ _ c.tick.ensures.taken c.tick.ensures.spent c.if-not-tick.false))

pub returns-in_ok-push-in-Pi-clause-turned : goal.returns-in_ok-push-in-Pi-clause-turned
returns-in_ok-push-in-Pi-clause-turned c = λ rechecks. asked-product rechecks _ _ _ _ _ c.args.id _ c.in-Pi.a c.in-Pi.b c.in-Pi.ensures.is
    c.in_ok-push-in-Pi.ensures.pushed (omega (arith, ticked _ _ _ c.tick.ensures.taken c.tick.ensures.spent c.if-not-tick.false))

pub returns-in-Sym-clause-turned : goal.returns-in-Sym-clause-turned
returns-in-Sym-clause-turned c = λ rechecks. asked-symbol rechecks _ c.args.state.now c.args.id c.in-Sym.s _ _ _ c.in-Sym.ensures.is c.symbol.ensures.is
    (omega (arith, ticked _ _ _ c.tick.ensures.taken c.tick.ensures.spent c.if-not-tick.false))

pub returns-in-Var-clause-known : goal.returns-in-Var-clause-known
returns-in-Var-clause-known c = IfOk-map c.variable.result (λ n h. known-state c.variable.ensures.grows.keeps _ c.requires.known) c.variable.ensures.known

pub returns-in-Var-clause-turned : goal.returns-in-Var-clause-turned
returns-in-Var-clause-turned c = IfOk-map c.variable.result
    (λ n h rechecks. asked-leaf rechecks _ _ c.args.state.now c.args.id (Var c.in-Var.n) _ _ _ n c.variable.ensures.grows.keeps c.in-Var.ensures.is refl h
    (omega (arith, ticked _ _ _ c.tick.ensures.taken c.tick.ensures.spent c.if-not-tick.false))) c.variable.ensures.is

pub returns-in-SortType-clause-known : goal.returns-in-SortType-clause-known
returns-in-SortType-clause-known c = IfOk-map c.kind.result (λ n h. known-state c.kind.ensures.grows.keeps _ c.requires.known) c.kind.ensures.known

pub returns-in-SortType-clause-turned : goal.returns-in-SortType-clause-turned
returns-in-SortType-clause-turned c = IfOk-map c.kind.result
    (λ n h rechecks. asked-leaf rechecks _ _ c.args.state.now c.args.id SortType _ _ _ n c.kind.ensures.grows.keeps c.in-SortType.ensures.is refl h
    (omega (arith, ticked _ _ _ c.tick.ensures.taken c.tick.ensures.spent c.if-not-tick.false))) c.kind.ensures.is

pub returns-in-SortKind-clause-turned : goal.returns-in-SortKind-clause-turned
returns-in-SortKind-clause-turned c = λ rechecks. asked-leaf rechecks _ _ c.args.state.now c.args.id SortKind None _ _ next.No (Keeps-refl _)
    c.in-SortKind.ensures.is refl refl (omega (arith, ticked _ _ _ c.tick.ensures.taken c.tick.ensures.spent c.if-not-tick.false))

pub returns-in-SortType-clause-lifts : goal.returns-in-SortType-clause-lifts
returns-in-SortType-clause-lifts c = IfOk-map c.kind.result (λ n h. AreLifts-Keeps c.kind.ensures.grows.keeps c.args.lifts.now c.requires.lifts)
    c.kind.ensures.known
