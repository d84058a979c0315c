use Rattle.std.proofs.Common.{◌≡◌, min, take}
use Rattle.std.specs.Prelude.{sum_by}
use Rattle.lp_spec.specs.Weight.{bound, greatest}
use Rattle.holide_sig.specs.Modules.{declarations_of}
use Rattle.bridge_spec.specs.Texts.{written_bound}
use Rattle.bridge_translate.proofs.translation.total.Given as goal

abbrev pub invariant-loop-index : goal.invariant-loop-index
invariant-loop-index l = l.total ≡ min (sum_by (λ d. written_bound d.form (bound (declarations_of l.source) d)) (take l.index (declarations_of l.source)))
    greatest
