use Rattle.std.proofs.Common.{arith}
use Rattle.lp_kernel.proofs.KeyLaws.{keyed-pushed}
use Rattle.lp_kernel.proofs.Told.{told-product-domain}
use Rattle.lp_kernel.proofs.tells.tell_product_domain.Goals as goal

pub returns-in_ok-push-in-SortType-2-clause-turned : goal.returns-in_ok-push-in-SortType-2-clause-turned
returns-in_ok-push-in-SortType-2-clause-turned c = λ rechecks left.
    told-product-domain rechecks _ _ _ _ c.args.a c.args.b c.args.found _ _ _ c.in-SortType.ensures.is c.in_ok-push-in-SortType-2.ensures.pushed
    c.in_ok-push-in-SortType.ensures.pushed (omega arith)

pub returns-in_ok-push-in-SortType-2-clause-keyed : goal.returns-in_ok-push-in-SortType-2-clause-keyed
returns-in_ok-push-in-SortType-2-clause-keyed c = λ h. keyed-pushed c.args.contexts.now c.inner.new.self c.args.state.now.context c.push.new.self
    c.args.state.now.key c.in_ok-state-in-SortType.field-0 c.args.a c.inner.ensures.more c.in_ok-state-in-SortType.ensures.key
    c.in_ok-push-in-SortType.ensures.pushed h
