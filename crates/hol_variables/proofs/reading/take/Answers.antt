use Rattle.std.proofs.lemmas.Result.{IfOk-weaker}
use Rattle.hol_variables.proofs.Taken.{AreParams-taken}
use Rattle.hol_variables.proofs.reading.take.Goals as goal

pub returns : goal.returns
returns c =
    let d = rw c.types.ensures.types at c.count-count.ensures.distinct in
    IfOk-weaker c.take_variables.result _ _
    (λ _ t s h. AreParams-taken c.args.terms.now s c.args.names.now c.args.variables.now c.args.params.now
    (record { type_vars = c.take_names.new.names; free_vars = c.take_variables.new.variables }) d h c.requires.no_names c.requires.no_variables
    (rw c.types-2.ensures.types at c.in_ok-take_names.ensures) t)
    c.take_variables.ensures
