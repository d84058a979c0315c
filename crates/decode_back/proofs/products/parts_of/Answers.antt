use Rattle.std.proofs.Common.{sym, ap, ◌∙◌, arith}
use Rattle.lp_term.specs.Tables.{tree_at, trees_at}
use Rattle.decode_spec.specs.Decode.{proof_part}
use Rattle.decode_back.proofs.PartsLemmas.{types-are, variables-are, hypotheses-are, end-is}
use Rattle.decode_back.proofs.products.parts_of.Goals as goal

pub returns-in_default-clause-parts : goal.returns-in_default-clause-parts
returns-in_default-clause-parts c =
    ap proof_part (end-is (tree_at c.args.table.now c.args.id.0) (tree_at c.args.table.now c.peel_types-type_variables.result.1.0)
    (tree_at c.args.table.now c.in_ok-variables.rest.0) (tree_at c.args.table.now c.in_ok-hypotheses.rest.0)
    c.peel_types-type_variables.result.0 (trees_at c.args.table.now c.in_ok-variables.variables.items)
    (trees_at c.args.table.now c.in_ok-hypotheses.hypotheses.items)
    c.peel_types-type_variables.ensures.peeled c.in_ok-variables.ensures.peeled c.in_ok-hypotheses.ensures.peeled) ∙ sym c.in_default.ensures.argument

pub returns-clause-parts : goal.returns-clause-parts
returns-clause-parts c =
    let A = tree_at c.args.table.now c.args.id.0 in
    let behind_types = tree_at c.args.table.now c.peel_types-type_variables.result.1.0 in
    let behind_variables = tree_at c.args.table.now c.in_ok-variables.rest.0 in
    let behind_hypotheses = tree_at c.args.table.now c.in_ok-hypotheses.rest.0 in
    let n = c.peel_types-type_variables.result.0 in
    let vs = trees_at c.args.table.now c.in_ok-variables.variables.items in
    let hs = trees_at c.args.table.now c.in_ok-hypotheses.hypotheses.items in
    let types = c.peel_types-type_variables.ensures.peeled in
    let variables = c.in_ok-variables.ensures.peeled in
    let hypotheses = c.in_ok-hypotheses.ensures.peeled in
    record {
      type_variables = types-are A behind_types behind_variables behind_hypotheses n vs hs types variables hypotheses;
      variables = variables-are A behind_types behind_variables behind_hypotheses n vs hs types variables hypotheses;
      hypotheses = hypotheses-are A behind_types behind_variables behind_hypotheses n vs hs types variables hypotheses;
      conclusion = ap proof_part (end-is A behind_types behind_variables behind_hypotheses n vs hs types variables hypotheses) ∙ sym c.in-Some.ensures.argument;
    }

pub returns-clause-known : goal.returns-clause-known
returns-clause-known c = record {
  variables = c.in_ok-variables.ensures.parts;
  hypotheses = c.in_ok-hypotheses.ensures.parts;
  conclusion = omega (arith, c.in-Some.ensures.known, c.in_ok-hypotheses.ensures.known);
}
