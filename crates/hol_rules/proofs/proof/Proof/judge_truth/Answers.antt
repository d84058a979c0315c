use Rattle.std.proofs.Common.{subst, sym, ◌∙◌, refl}
use Rattle.std.proofs.lemmas.List.{drop_more}
use Rattle.hol_rules.proofs.Truths.{AreLeft, left_goes_on}
use Rattle.hol_rules.proofs.proof.Proof.judge_truth.Goals as goal

pub loop-id-init : goal.loop-id-init
loop-id-init c = record { terms = c.requires.hyps; decide = refl }

pub loop-id-preserved : goal.loop-id-preserved
loop-id-preserved c =
    let trees = c.args.self.now.trees in
    left_goes_on trees c.args.hyps.now _ _
    (subst (AreLeft trees c.args.hyps.now) (drop_more c.args.hyps.now c.loop-id.id-index _ c.loop-id-test.true) c.loop-id.invariant)
    (sym c.is_truth_value-in-loop-id.ensures.is ∙ c.if-not-is_truth_value-2.false)
