use Rattle.lp_kernel.proofs.Asked.{IfOk-map}
use Rattle.lp_kernel.proofs.Expected.{told-expected}
use Rattle.lp_kernel.proofs.tells.tell_expected.Goals as goal

pub returns-in-SortType-clause-turned : goal.returns-in-SortType-clause-turned
returns-in-SortType-clause-turned c =
    IfOk-map c.convert.result
    (λ n h rechecks.
    told-expected rechecks _ c.args.base.now.table c.args.state.now c.args.expected c.args.found c.view.result _ _ n c.convert.ensures.grows.keeps.stays
    c.requires.found c.view.ensures.is c.in-SortType.is (h rechecks))
    c.convert.ensures.turned
