use Rattle.std.proofs.Common.{◌∙◌, sym, ap, Some}
use Rattle.std.proofs.lemmas.Result.{IfOk-weaker}
use Rattle.translate_proof.proofs.StandTrees.{type-found, type-absent}
use Rattle.translate_proof.proofs.scope.Environment.type_variable.Goals as goal

pub returns-in-Some-clause-made : goal.returns-in-Some-clause-made
returns-in-Some-clause-made c = λ scope t. type-found _ _ c.args.name.now c.in-Some.tree scope t (sym c.find.ensures ∙ c.in-Some.is)

pub returns-in-None-clause-made : goal.returns-in-None-clause-made
returns-in-None-clause-made c =
    IfOk-weaker c.node.result _ _ (λ r h scope t. h ∙ ap Some (type-absent _ _ c.args.name.now scope t (sym c.find.ensures ∙ c.in-None.is)))
    c.node.ensures.made
