use Rattle.std.proofs.Common.{◌≡◌, map, take}
use Rattle.lp_spec.specs.FastCheck.{fast_bound}
use Rattle.holide_sig.specs.Modules.{declarations_of}
use Rattle.lp_weight.specs.Spreads.{AreWeights}
use Rattle.bridge_verify.proofs.fast.fast_bounds.Given as goal

abbrev pub invariant-loop-i : goal.invariant-loop-i
invariant-loop-i l = record {
  bounds : l.bounds.items ≡ map (fast_bound (declarations_of l.source)) (take l.i (declarations_of l.source));
  weights : AreWeights l.source l.weights;
}
