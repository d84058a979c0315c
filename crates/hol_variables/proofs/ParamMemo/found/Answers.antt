use Rattle.std.proofs.Common.{arith, ◌∙◌}
use Rattle.hol_spec.specs.Terms.{free_places}
use Rattle.hol_term.specs.Tables.{term_at}
use Rattle.hol_variables.specs.Variables.{variable_view}
use Rattle.hol_variables.proofs.Found.{found_free}
use Rattle.hol_variables.proofs.Measured.{variables_listed}
use Rattle.hol_variables.proofs.Owned.{term_noted}
use Rattle.hol_variables.proofs.ParamMemo.found.Goals as goal

pub returns-in-Some : goal.returns-in-Some
returns-in-Some c =
    let trees = c.args.terms.now in
    let memo = c.args.self.now in
    let own = c.own.result in
    let w = term_noted trees memo.names memo.variables memo.terms.items c.requires.noted.terms c.args.id.0 _ own (c.own.ensures ∙ c.index.ensures)
    (omega (arith, c.requires.known, c.requires.all_terms)) in
    c.is_among.ensures
    ∙ found_free trees (variable_view trees c.args.variable.now) c.args.id.0 c.numbers.result.now
    (variables_listed trees (free_places (term_at trees c.args.id.0)) memo.variables own.variables c.in-Some.list _ _ w.free_variables c.in-Some.is
    c.list.ensures c.numbers.ensures.numbers)
