use Rattle.std.specs.Prelude.{take}
use Rattle.translate_proof.specs.Keeping.{AreKept}
use Rattle.translate_rule.specs.ItemViews.{run_of}
use Rattle.translate_rule.specs.Building.{IsBuilt}
use Rattle.translate_rule.proofs.builder.module.Given as goal

abbrev pub invariant-loop-one : goal.invariant-loop-one
invariant-loop-one l = IsBuilt (run_of l.proof l.assumptions l.exports) (take l.one-index l.proof.made) l.builder × AreKept l.proof l.builder.kept
