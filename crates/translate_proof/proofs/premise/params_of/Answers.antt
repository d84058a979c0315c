use Rattle.translate_proof.proofs.ParameterLaws.{params-AreParams}
use Rattle.translate_proof.proofs.premise.params_of.Goals as goal

pub returns : goal.returns
returns c =
    params-AreParams c.args.proof.now c.args.id c.params_of.result c.params_of.ensures.type_vars c.params_of.ensures.free_vars c.params_of.ensures.known
