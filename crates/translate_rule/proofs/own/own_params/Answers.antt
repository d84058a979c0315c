use Rattle.std.proofs.lemmas.Result.{IfOk-weaker}
use Rattle.translate_rule.proofs.own.own_params.Goals as goal

pub returns : goal.returns
returns c =
    let one_term = rw c.terms-table.ensures at c.view-conclusion.ensures.distinct in
    let one_type = rw c.terms-table.ensures at c.ty-ty.ensures.one_each in
    IfOk-weaker c.lend.result _ _
    (λ lent h. record { type_vars = h.type_vars; free_vars = h.free_vars; known = h.known; one_type = one_type; one_term = one_term }) c.lend.ensures
