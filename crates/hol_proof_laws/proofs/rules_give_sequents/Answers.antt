use Rattle.hol_proof_laws.specs.RuleSequents.{rule-IsSequent}
use Rattle.hol_proof_laws.proofs.rules_give_sequents.Goals as goal

pub returns : goal.returns
returns c = rule-IsSequent
