use Rattle.hol_rules.proofs.proof.Proof.params_of.Goals as goal

pub params-requires-clause-known : goal.params-requires-clause-known
params-requires-clause-known c = rw (← c.self.view_is) at c.sequent.ensures.known
