use Rattle.std.proofs.lemmas.Result.{IfOk-weaker}
use Rattle.hol_spec.specs.Proofs.{sequent_at}
use Rattle.translate_spec.specs.Scopes.{scope_of_terms}
use Rattle.translate_proof.specs.Rescoped.{with_scope}
use Rattle.translate_rule.specs.Steps.{given_at}
use Rattle.translate_rule.proofs.OwnLaws.{placed-variables}
use Rattle.translate_rule.proofs.own.variable_environment.Goals as goal

pub returns-clause-made : goal.returns-clause-made
returns-clause-made c =
    let k = c.args.step.ground.proof.now in
    let s = sequent_at k.made c.args.step.id in
    IfOk-weaker c.of.result _ _
    (λ env h d symbols declared. h (with_scope (given_at d symbols s) (scope_of_terms symbols s)) k.trees
    (placed-variables k c.args.step.id d symbols c.args.target.now c.requires.step.held declared _ _ c.requires.step.params))
    c.of.ensures.made
