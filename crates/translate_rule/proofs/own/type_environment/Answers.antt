use Rattle.std.proofs.lemmas.Result.{IfOk-weaker}
use Rattle.translate_rule.specs.Steps.{given_over}
use Rattle.translate_rule.proofs.OwnLaws.{placed-over}
use Rattle.translate_rule.proofs.own.type_environment.Goals as goal

pub returns-clause-made : goal.returns-clause-made
returns-clause-made c =
    let k = c.args.proof.now in
    let one_term = rw c.terms-table.ensures at c.view-conclusion.ensures.distinct in
    let one_type = rw c.terms-table.ensures at c.ty-ty.ensures.one_each in
    IfOk-weaker c.of_types.result _ _
    (λ env h d symbols declared. h (given_over d symbols c.args.names.now) k.trees
    (placed-over k.trees d symbols c.args.target.now c.requires.held declared one_type one_term c.args.names.now)) c.of_types.ensures.made
