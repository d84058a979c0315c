use Rattle.std.proofs.Common.{sym, subst}
use Rattle.bridge_base.specs.Outside.{GainsFront}
use Rattle.bridge_base.specs.Gaining.{front_of_first, front_of_second}
use Rattle.bridge_answer.proofs.Fronts.{flat_map_at, on_err}
use Rattle.bridge_answer.proofs.delivery.write_parts.Goals as goal

pub returns-in_err-write_all-clause-err : goal.returns-in_err-write_all-clause-err
returns-in_err-write_all-clause-err g c =
    on_err c.from_residual.result
    (subst (λ text. GainsFront (g.S.Sink.got c.args.sink.now) text (g.S.Sink.got c.write_all.new.sink))
    (sym (flat_map_at (λ part. part.now) c.args.parts.now c.loop-part.part-index _ c.loop-part-test.true))
    (front_of_first _ _ _ _ (front_of_second _ _ _ _ _ c.loop-part.invariant.gained c.in_err-write_all.ensures.err)))
