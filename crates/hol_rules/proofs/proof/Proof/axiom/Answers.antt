use Rattle.hol_rules.proofs.Truths.{axiom-ends, given_stated}
use Rattle.hol_rules.proofs.Ends.{ended}
use Rattle.hol_rules.proofs.Concluded.{Grows-refl, fails-both, refused, stopped}
use Rattle.hol_rules.proofs.proof.Proof.axiom.Goals as goal

pub conclude-requires-clause-follows : goal.conclude-requires-clause-follows
conclude-requires-clause-follows c =
    (axiom-ends c.args.self.now c.args.hyps.now c.args.concl c.in_ok-judge_truth.ensures.truths c.in_ok-given.given c.in_ok-sequent.sequent
    c.in_ok-given.ensures c.in_ok-sequent.ensures.stated).follows

pub returns : goal.returns
returns c =
    ended (axiom-ends c.args.self.now c.args.hyps.now c.args.concl c.in_ok-judge_truth.ensures.truths c.in_ok-given.given c.in_ok-sequent.sequent
    c.in_ok-given.ensures c.in_ok-sequent.ensures.stated)
    c.conclude.new.self c.conclude.result c.conclude.ensures

pub returns-in_err-judge_truth : goal.returns-in_err-judge_truth
returns-in_err-judge_truth c = refused (Grows-refl c.args.self.now) _ c.from_residual.result c.in_err-judge_truth.field-0.0 c.from_residual.ensures.1
    (fails-both _ _ _ c.in_err-judge_truth.ensures.refused)

pub returns-in_err-sequent : goal.returns-in_err-sequent
returns-in_err-sequent c = stopped (Grows-refl c.args.self.now) _ c.from_residual-in_err-sequent.result c.from_residual-in_err-sequent.ensures.1

pub returns-in_err-given : goal.returns-in_err-given
returns-in_err-given c = stopped (Grows-refl c.args.self.now) _ c.from_residual-in_err-given.result c.from_residual-in_err-given.ensures.1

pub conclude-requires-clause-parameters : goal.conclude-requires-clause-parameters
conclude-requires-clause-parameters c =
    (given_stated c.args.self.now c.args.hyps.now c.args.concl c.in_ok-judge_truth.ensures.truths c.in_ok-given.given c.in_ok-sequent.sequent
    c.in_ok-given.ensures c.in_ok-sequent.ensures.stated).known

pub conclude-requires-clause-sequent : goal.conclude-requires-clause-sequent
conclude-requires-clause-sequent c = c.in_ok-sequent.ensures.stated.known
