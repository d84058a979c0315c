use Rattle.hol_variables.proofs.Measured.{Gathers-lists}
use Rattle.hol_variables.proofs.ParamMemo.gather.Goals as goal

pub returns : goal.returns
returns c =
    let d = rw c.types.ensures.types at c.count-count.ensures.distinct in
    λ e. Gathers-lists c.args.terms.now c.args.id _ _ _ _ d c.view-head.ensures.distinct c.in-Some.ensures c.in_ok-unite.ensures.united
    c.in_ok-unite-2.ensures.united
