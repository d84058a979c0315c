use Rattle.hol_rules.proofs.RuleSteps.{said}
use Rattle.hol_rules.proofs.proof.Proof.premise.Goals as goal

pub returns-clause-typed : goal.returns-clause-typed
returns-clause-typed c = said c.args.self.now.made c.is_proof.ensures c.args.id c.requires

pub returns-in_err-hyps-clause-typed : goal.returns-in_err-hyps-clause-typed
returns-in_err-hyps-clause-typed c = said c.args.self.now.made c.is_proof.ensures c.args.id c.requires
