use Rattle.std.proofs.Common.{arith, ◌∙◌}
use Rattle.hol_spec.specs.Terms.{type_variable_places, free_places}
use Rattle.hol_term.specs.Tables.{term_at}
use Rattle.hol_variables.proofs.Measured.{names_listed, variables_listed}
use Rattle.hol_variables.proofs.Owned.{term_noted}
use Rattle.hol_variables.proofs.ParamMemo.lists.Goals as goal

pub returns : goal.returns
returns c =
    let trees = c.args.terms.now in
    let t = term_at trees c.args.id.0 in
    let memo = c.args.self.now in
    let own = c.own-own.result in
    let w = term_noted trees memo.names memo.variables memo.terms.items c.requires.noted.terms c.args.id.0 _ own (c.own-own.ensures ∙ c.index.ensures)
    (omega (arith, c.if-id-len.false, c.len.ensures)) in
    record {
      type_variables = names_listed trees.types (type_variable_places t) memo.names own.names c.in-Some-Some.names _ _ w.type_variables c.in-Some-Some.is-0
          c.list.ensures c.numbers.ensures.numbers;
      free_variables = variables_listed trees (free_places t) memo.variables own.variables c.in-Some-Some.variables _ _ w.free_variables c.in-Some-Some.is-1
          c.list-2.ensures c.numbers-2.ensures.numbers;
    }
