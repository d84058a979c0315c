use Rattle.lp_kernel.proofs.Asked.{IfOk-map}
use Rattle.lp_kernel.proofs.Told.{told-sorted}
use Rattle.lp_kernel.proofs.tells.tell_reached.Goals as goal

pub returns-in-SortType-clause-turned : goal.returns-in-SortType-clause-turned
returns-in-SortType-clause-turned c =
    IfOk-map c.to_argument.result
    (λ n h rechecks left. told-sorted rechecks _ c.args.state.now c.to_argument.new.state c.args.product c.args.app c.args.found c.view.result left n
    c.view.ensures.is c.in-SortType.is (h rechecks left)) c.to_argument.ensures.turned
