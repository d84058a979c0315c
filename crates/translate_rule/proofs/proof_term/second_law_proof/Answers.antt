use Rattle.std.proofs.Common.{subst}
use Rattle.hol_spec.specs.declared.StepKind.TheVariants as kinds
use Rattle.translate_rule.specs.LawSteps.{IsOperatorStep}
use Rattle.translate_rule.specs.OwnSteps.{proof_in}
use Rattle.translate_rule.proofs.LawRules.{second-given, second-law}
use Rattle.translate_rule.proofs.StepRules.{rule-one}
use Rattle.translate_rule.proofs.proof_term.second_law_proof.Goals as goal

pub law_version-requires-clause-operator : goal.law_version-requires-clause-operator
law_version-requires-clause-operator c =
    let k = proof_in c.args.step in
    let id = c.args.step.id in
    let l = c.requires.step.id in
    let p = c.is_proof.ensures in
    second-given k id c.args.one.id (rule-one k id l p kinds.SecondLaw c.args.one.id c.requires.kind c.requires.premise)

pub second_law_free_proof-requires-clause-law : goal.second_law_free_proof-requires-clause-law
second_law_free_proof-requires-clause-law c =
    let k = proof_in c.args.step in
    let id = c.args.step.id in
    let l = c.requires.step.id in
    let p = c.is_proof.ensures in
    second-law k id c.args.one.id _ (subst (λ v. IsOperatorStep v k id) c.in-Five.is c.law_version.ensures)
    (rule-one k id l p kinds.SecondLaw c.args.one.id c.requires.kind c.requires.premise)

pub second_law_bound_proof-requires-clause-law : goal.second_law_bound_proof-requires-clause-law
second_law_bound_proof-requires-clause-law c =
    let k = proof_in c.args.step in
    let id = c.args.step.id in
    let l = c.requires.step.id in
    let p = c.is_proof.ensures in
    second-law k id c.args.one.id _ (subst (λ v. IsOperatorStep v k id) c.in-Six.is c.law_version.ensures)
    (rule-one k id l p kinds.SecondLaw c.args.one.id c.requires.kind c.requires.premise)
