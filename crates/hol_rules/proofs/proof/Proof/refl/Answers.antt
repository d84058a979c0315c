use Rattle.hol_rules.proofs.Ends.{refl-ends, ended, refl-concl}
use Rattle.hol_rules.proofs.Concluded.{stopped}
use Rattle.hol_rules.proofs.BetaEnds.{own_known}
use Rattle.hol_rules.proofs.proof.Proof.refl.Goals as goal

pub conclude-requires-clause-follows : goal.conclude-requires-clause-follows
conclude-requires-clause-follows c =
    (refl-ends c.args.self.now c.equation.new.self c.equation.ensures.grows c.args.t c.requires c.in_ok-concl.concl c.in_ok-concl.ensures.made c.in_ok-hyps.hyps
    c.in_ok-hyps.ensures).follows

pub returns : goal.returns
returns c = ended (refl-ends c.args.self.now c.equation.new.self c.equation.ensures.grows c.args.t c.requires c.in_ok-concl.concl c.in_ok-concl.ensures.made
    c.in_ok-hyps.hyps c.in_ok-hyps.ensures) c.conclude.new.self c.conclude.result c.conclude.ensures

pub returns-in_err-concl : goal.returns-in_err-concl
returns-in_err-concl c = stopped c.equation.ensures.grows _ c.from_residual.result c.from_residual.ensures.1

pub returns-in_err-hyps : goal.returns-in_err-hyps
returns-in_err-hyps c = stopped c.equation.ensures.grows _ c.from_residual-in_err-hyps.result c.from_residual-in_err-hyps.ensures.1

pub conclude-requires-clause-parameters : goal.conclude-requires-clause-parameters
conclude-requires-clause-parameters c = own_known c.args.self.now c.args.t c.requires c.equation.new.self c.equation.ensures.grows

pub conclude-requires-clause-sequent : goal.conclude-requires-clause-sequent
conclude-requires-clause-sequent c =
    (c.in_ok-hyps.ensures.known, refl-concl c.args.self.now c.args.t c.requires c.equation.new.self c.in_ok-concl.concl c.in_ok-concl.ensures.made)
