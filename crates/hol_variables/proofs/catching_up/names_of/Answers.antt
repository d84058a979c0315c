use Rattle.std.proofs.Common.{subst}
use Rattle.std.specs.Prelude.{IfOk}
use Rattle.hol_variables.specs.Lists.{Tells}
use Rattle.hol_variables.specs.Variables.{AreNames}
use Rattle.hol_variables.proofs.Gathered.{operator_places}
use Rattle.hol_variables.proofs.catching_up.names_of.Goals as goal

pub returns-in-Op-clause-names : goal.returns-in-Op-clause-names
returns-in-Op-clause-names c =
    let types = c.args.types.now in
    subst (λ places. IfOk c.names_of_all.result (λ list. Tells (AreNames types places) c.names_of_all.new.lists list))
    (operator_places types c.args.id.0 _ _ c.in-Op.ensures.is) c.names_of_all.ensures.names
