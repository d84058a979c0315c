use Rattle.std.proofs.Common.{ap, ◌∙◌}
use Rattle.hol_term.specs.Subterms.{variables_of}
use Rattle.hol_variables.proofs.Measured.{counted, walked_count}
use Rattle.hol_variables.proofs.walking.walked.Goals as goal

pub returns : goal.returns
returns c =
    counted _ _ _ _ _ c.saturating_add-variables.ensures c.saturating_add.ensures
    ∙ walked_count c.args.terms.now c.args.sequent.now c.names.result.now c.variables.result.now c.ids.result.now
    (c.names.ensures ∙ c.in_ok-params.ensures.type_vars) (ap (variables_of c.args.terms.now) c.variables.ensures ∙ c.in_ok-params.ensures.free_vars)
    c.ids.ensures.numbers
