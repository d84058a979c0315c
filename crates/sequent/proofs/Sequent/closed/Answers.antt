use Rattle.std.proofs.Common.{◌∙◌, ap, length, map}
use Rattle.hol_spec.specs.ClosedForm.{close_term}
use Rattle.hol_term.specs.Subterms.{variables_of}
use Rattle.hol_term.specs.Tables.{terms_at}
use Rattle.sequent.specs.Sequents.{sequent_at}
use Rattle.sequent.proofs.ClosedLaws.{closed_is}
use Rattle.sequent.proofs.Sequent.closed.Goals as goal

pub returns : goal.returns
returns c =
    let trees = c.args.table.now in
    let names = c.in_ok-params.params.type_vars in
    let variables = variables_of trees c.in_ok-params.params.free_vars in
    closed_is (sequent_at trees c.args.self.now) names variables
    (record { type_vars = length c.names.result.now; free_vars = c.in_ok-free_vars.free_vars; hyps = c.in_ok-hyps.hyps; concl = c.in_ok-concl.concl })
    c.in_ok-params.ensures.type_vars c.in_ok-params.ensures.free_vars (ap length c.names.ensures)
    c.in_ok-free_vars.ensures
    (c.in_ok-hyps.ensures ∙ ap (λ ids. map (close_term names variables) (terms_at trees ids)) c.ids.ensures.numbers)
    c.in_ok-concl.ensures
