use Rattle.std.proofs.Common.{sym, subst, arith, List, ℕ}
use Rattle.bridge_base.specs.Outside.{Gains}
use Rattle.bridge_base.specs.Gaining.{gains_both}
use Rattle.vectors.proofs.WritingLaws.{writes_failed}
use Rattle.vectors.proofs.TrialParts.{blocks_at, next_block}
use Rattle.vectors.proofs.write_blocks.Goals as goal

pub returns-in_err-write_block : goal.returns-in_err-write_block
returns-in_err-write_block g c =
    writes_failed _ _ _ _ _ _ _ _ _ _ _ _ _ c.in_err-write_block.was c.from_residual.ensures.0
    (blocks_at c.loop-before.before c.args.n c.loop-before-test.true).1
    c.loop-before.invariant.text c.loop-before.invariant.later c.write_block.ensures

pub loop-before-preserved : goal.loop-before-preserved
loop-before-preserved g c = record {
  text = subst (λ (l : List ℕ). Gains (g.S.Sink.got c.args.sink.now) l (g.S.Sink.got c.write_block.new.sink)) (sym (next_block c.loop-before.before))
      (gains_both _ _ _ _ _ c.loop-before.invariant.text c.in_ok-write_block.ensures.ok);
  later = omega (arith, c.loop-before.invariant.later, c.in_ok-write_block.ensures.cause.later);
}
