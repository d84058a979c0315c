use Rattle.std.proofs.Common.{◌≡◌, ℕ, List, true, take}
use Rattle.std.specs.List.{list_all}
use Rattle.hol_spec.specs.Proofs.{steps_of}
use Rattle.article_write_laws.specs.Flags.{selected}
use Rattle.article_lines.specs.Flagged.{flag, AreExports}
use Rattle.article_write.specs.Fitting.{fits_step}
use Rattle.article_write.proofs.fitting.is_fitting.Given as goal

abbrev pub invariant-loop-step : goal.invariant-loop-step
invariant-loop-step l = (exports : List ℕ) → AreExports l.is_export exports → list_all (fits_step l.version exports)
    (selected (flag l.told) 0 (take l.step (steps_of l.proof.made))) ≡ true
