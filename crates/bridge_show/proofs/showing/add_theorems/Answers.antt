use Rattle.std.proofs.Common.{◌<◌, length}
use Rattle.hol_spec.specs.Proofs.{steps_of}
use Rattle.bridge_show.proofs.Shown.{all-at, theorem_lines-next}
use Rattle.bridge_show.proofs.showing.add_theorems.Goals as goal

pub add_theorem-requires : goal.add_theorem-requires
add_theorem-requires c = all-at (λ i. i < length (steps_of c.args.proof.now.made)) c.args.steps.now c.loop-number.number 0 c.requires c.loop-number-test.true

pub loop-number-preserved : goal.loop-number-preserved
loop-number-preserved c = theorem_lines-next _ c.args.proof.now.made c.args.steps.now c.loop-number.number 0 _ _ _ c.loop-number-test.true
    c.in_ok-add_theorem.ensures c.loop-number.invariant
