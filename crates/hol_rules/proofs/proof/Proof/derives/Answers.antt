use Rattle.hol_proof_laws.specs.StepsDerive.{proof-derives}
use Rattle.hol_rules.proofs.proof.Proof.derives.Goals as goal

pub returns : goal.returns
returns c = proof-derives c.args.self.now.made c.is_proof.ensures
