use Rattle.hol_spec.specs.Proofs.{steps_of}
use Rattle.article_write_spec.specs.Lengths.{count_each}
use Rattle.article_write_laws.specs.Flags.{selected}
use Rattle.article_lines.specs.Flagged.{flag}
use Rattle.article_count.specs.StepCounts.{count_flagged, tally_begun, IsStepWalk}
use Rattle.article_count.proofs.steps.article_length.Given as goal

-- what is counted, with the steps that are left, comes to all
abbrev pub invariant-loop-id : goal.invariant-loop-id
invariant-loop-id l =
    IsStepWalk l.proof.trees (steps_of l.proof.made) l.told l.is_export l.number l.id l.counted
    (count_each (count_flagged l.number l.is_export) (selected (flag l.told) 0 (steps_of l.proof.made)) (tally_begun l.fn.version))
