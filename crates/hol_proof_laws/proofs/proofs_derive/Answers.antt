use Rattle.hol_proof_laws.specs.StepsDerive.{proof-derives}
use Rattle.hol_proof_laws.proofs.proofs_derive.Goals as goal

pub returns : goal.returns
returns c = proof-derives
