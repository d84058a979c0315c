use Rattle.std.proofs.Common.{◌<◌, ◌≤◌, ◌+◌, ◌∙◌, ap, arith, length}
use Rattle.hol_spec.specs.Proofs.{steps_of}
use Rattle.hol_rules.specs.Kept.{step_count}
use Rattle.article_write_spec.specs.Lengths.{capped, Tally}
use Rattle.article_lines.specs.Greatest.{greatest_length}
use Rattle.article_count.specs.StepCounts.{tally_begun}
use Rattle.article_count.proofs.StepWalks.{flagged-exports, next-counted, next-skipped, walk-ends, walk-new}
use Rattle.article_count.proofs.steps.article_length.Goals.{then-told-id+in_ok-count_step, else-told-id}
use Rattle.article_count.proofs.steps.article_length.Goals as goal

pub count_step-requires-clause-new : goal.count_step-requires-clause-new
count_step-requires-clause-new c =
    let low : c.loop-id.id < step_count c.args.proof.now = omega (arith, c.loop-id-test.true, c.len-id-end.ensures) in
    walk-new c.requires.pairs low c.loop-id.invariant

pub loop-id-preserved : goal.loop-id-preserved
loop-id-preserved c =
    let low : c.loop-id.id < step_count c.args.proof.now = omega (arith, c.loop-id-test.true, c.len-id-end.ensures) in
    elim c.if-told-id.branch [
      | then-told-id+in_ok-count_step w ↦ next-counted c.if-told-id.counted w.count_step.new.self c.requires.pairs low w.if-told-id.true w.counted-is
          w.in_ok-count_step.ensures c.loop-id.invariant
      | else-told-id w ↦ next-skipped c.if-told-id.counted low w.if-told-id.false w.counted-is c.loop-id.invariant
    ]

pub returns : goal.returns
returns c = λ exports h.
    let steps = steps_of c.args.proof.now.made in
    let all : length steps ≤ c.loop-id.id = omega (arith, c.loop-id-test.false, c.len-id-end.ensures) in
    let fits : 0 + length steps ≤ length c.args.is_export.now = omega (arith, c.requires.exports) in
    let done = walk-ends all c.loop-id.invariant in
    done.tally.counted ∙ ap (λ (t : Tally). capped greatest_length t.length)
    (flagged-exports c.args.number c.args.told.now c.args.is_export.now exports 0 steps (tally_begun c.args.version) fits h)
