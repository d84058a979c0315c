use Rattle.std.specs.Prelude.{drop}
use Rattle.hol_rules.proofs.Truths.{AreLeft}
use Rattle.hol_rules.proofs.proof.Proof.judge_truth.Given as goal

abbrev pub invariant-loop-id : goal.invariant-loop-id
invariant-loop-id l = AreLeft l.self.trees l.hyps (drop l.id-index l.hyps)
