use Rattle.hol_rules.proofs.HypothesisEnds.{prove_hyp-ends}
use Rattle.hol_rules.proofs.Concluded.{Grows-refl, stopped}
use Rattle.hol_rules.proofs.Ends.{ended}
use Rattle.hol_rules.proofs.proof.Proof.prove_hyp.Goals as goal

pub conclude-requires-clause-sequent : goal.conclude-requires-clause-sequent
conclude-requires-clause-sequent c = (c.in_ok-hyps.ensures.known, c.concl-concl.ensures.is.known)

pub conclude-requires-clause-follows : goal.conclude-requires-clause-follows
conclude-requires-clause-follows c =
    (prove_hyp-ends c.args.self.now c.args.one c.args.two c.requires.one c.requires.two c.in_ok-hyps.hyps c.in_ok-hyps.ensures c.concl-concl.result
    c.concl-concl.ensures.is).follows

pub returns : goal.returns
returns c = ended (prove_hyp-ends c.args.self.now c.args.one c.args.two c.requires.one c.requires.two c.in_ok-hyps.hyps c.in_ok-hyps.ensures
    c.concl-concl.result c.concl-concl.ensures.is) c.conclude.new.self c.conclude.result c.conclude.ensures

pub returns-in_err-hyps : goal.returns-in_err-hyps
returns-in_err-hyps c = stopped (Grows-refl c.args.self.now) _ c.from_residual.result c.from_residual.ensures.1
