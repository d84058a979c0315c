use Rattle.std.proofs.Common.{sym, ◌∙◌}
use Rattle.hol_rules.proofs.Ends.{assume-ends, ended}
use Rattle.hol_rules.proofs.Concluded.{Grows-refl, refuses, stopped}
use Rattle.common.specs.declared.faults.Fault.TheVariants.{Refused}
use Rattle.common.specs.declared.faults.Kind.TheVariants.{NotBool}
use Rattle.hol_rules.proofs.RuleSteps.{unmet}
use Rattle.hol_rules.proofs.proof.Proof.assume.Goals as goal

pub conclude-requires-clause-follows : goal.conclude-requires-clause-follows
conclude-requires-clause-follows c =
    (assume-ends c.args.self.now c.args.p c.is_truth_value.ensures.known (sym c.is_truth_value.ensures.is ∙ c.if-not-is_truth_value.false) c.in_ok-hyps.hyps
    c.in_ok-hyps.ensures).follows

pub returns : goal.returns
returns c = ended (assume-ends c.args.self.now c.args.p c.is_truth_value.ensures.known (sym c.is_truth_value.ensures.is ∙ c.if-not-is_truth_value.false)
    c.in_ok-hyps.hyps c.in_ok-hyps.ensures) c.conclude.new.self c.conclude.result c.conclude.ensures

pub returns-then-not-is_truth_value : goal.returns-then-not-is_truth_value
returns-then-not-is_truth_value c = refuses (Grows-refl c.args.self.now) _ (Refused NotBool)
    (unmet _ NotBool _ (sym c.is_truth_value.ensures.is ∙ c.if-not-is_truth_value.true))

pub returns-in_err-hyps : goal.returns-in_err-hyps
returns-in_err-hyps c = stopped (Grows-refl c.args.self.now) _ c.from_residual.result c.from_residual.ensures.1

pub conclude-requires-clause-sequent : goal.conclude-requires-clause-sequent
conclude-requires-clause-sequent c = (c.in_ok-hyps.ensures.known, c.is_truth_value.ensures.known)

pub conclude-requires-clause-parameters : goal.conclude-requires-clause-parameters
conclude-requires-clause-parameters c = c.is_truth_value.ensures.known
