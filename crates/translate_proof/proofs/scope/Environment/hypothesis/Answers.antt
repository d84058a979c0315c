use Rattle.std.proofs.Common.{◌∙◌, sym, ap, Some}
use Rattle.std.proofs.lemmas.Result.{IfOk-weaker}
use Rattle.translate_proof.specs.Environments.{unproved}
use Rattle.translate_proof.proofs.StandTrees.{proof-found, proof-absent}
use Rattle.translate_proof.proofs.scope.Environment.hypothesis.Goals as goal

pub returns-in-Some-clause-made : goal.returns-in-Some-clause-made
returns-in-Some-clause-made c = λ given trees s known. proof-found trees s.one_term _ c.args.id known _ c.in-Some.tree unproved given.scope.proofs s.proofs
    (sym c.find_proof.ensures ∙ c.in-Some.is)

pub returns-in-None-clause-made : goal.returns-in-None-clause-made
returns-in-None-clause-made c =
    IfOk-weaker c.node.result _ _ (λ r h given trees s known. h
    ∙ ap Some (proof-absent trees s.one_term _ c.args.id known _ unproved given.scope.proofs s.proofs (sym c.find_proof.ensures ∙ c.in-None.is)))
    c.node.ensures.made
