use Rattle.hol_rules.proofs.BetaEnds.{beta_conv-ends, beta_conv-typed, own_known, own_term}
use Rattle.hol_rules.proofs.Concluded.{Grows-trans, stopped}
use Rattle.hol_rules.proofs.Ends.{ended}
use Rattle.hol_rules.proofs.proof.Proof.beta_conv.Goals as goal

pub equation-requires-clause-left : goal.equation-requires-clause-left
equation-requires-clause-left c = own_term c.args.self.now c.args.t c.requires c.instance.new.self c.instance.ensures.grows

pub conclude-requires-clause-follows : goal.conclude-requires-clause-follows
conclude-requires-clause-follows c =
    (beta_conv-ends c.args.self.now c.args.t c.requires c.instance.new.self c.instance.ensures.grows c.in-Some.redex c.in-Some.ensures.parts
    c.in_ok-reduced.reduced c.in_ok-reduced.ensures.made c.equation.new.self c.equation.ensures.grows c.in_ok-concl.concl c.in_ok-concl.ensures.made
    c.in_ok-hyps.hyps c.in_ok-hyps.ensures).follows

pub returns : goal.returns
returns c = ended (beta_conv-ends c.args.self.now c.args.t c.requires c.instance.new.self c.instance.ensures.grows c.in-Some.redex c.in-Some.ensures.parts
    c.in_ok-reduced.reduced c.in_ok-reduced.ensures.made c.equation.new.self c.equation.ensures.grows c.in_ok-concl.concl c.in_ok-concl.ensures.made
    c.in_ok-hyps.hyps c.in_ok-hyps.ensures) c.conclude.new.self c.conclude.result c.conclude.ensures

pub returns-in_err-reduced : goal.returns-in_err-reduced
returns-in_err-reduced c = stopped c.instance.ensures.grows _ c.from_residual.result c.from_residual.ensures.1

pub returns-in_err-concl : goal.returns-in_err-concl
returns-in_err-concl c = stopped (Grows-trans c.instance.ensures.grows c.equation.ensures.grows) _ c.from_residual-in_err-concl.result
    c.from_residual-in_err-concl.ensures.1

pub returns-in_err-hyps : goal.returns-in_err-hyps
returns-in_err-hyps c = stopped (Grows-trans c.instance.ensures.grows c.equation.ensures.grows) _ c.from_residual-in_err-hyps.result
    c.from_residual-in_err-hyps.ensures.1

pub conclude-requires-clause-parameters : goal.conclude-requires-clause-parameters
conclude-requires-clause-parameters c = own_known c.args.self.now c.args.t c.requires c.equation.new.self
    (Grows-trans c.instance.ensures.grows c.equation.ensures.grows)

pub conclude-requires-clause-sequent : goal.conclude-requires-clause-sequent
conclude-requires-clause-sequent c =
    let t = beta_conv-typed c.args.self.now c.args.t c.requires c.instance.new.self c.instance.ensures.grows in
    (c.in_ok-hyps.ensures.known, (c.in_ok-concl.ensures.made t.0 t.1).known)
