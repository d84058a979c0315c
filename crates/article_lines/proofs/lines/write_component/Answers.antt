use Rattle.std.proofs.Common.{subst, arith, sym, List, ℕ}
use Rattle.bridge_base.specs.Outside.{Gains}
use Rattle.bridge_base.specs.Gaining.{gains_both}
use Rattle.article_lines.specs.WritingLaws.{writes_failed}
use Rattle.article_lines.proofs.NameTexts.{next-byte, byte-parts}
use Rattle.article_lines.proofs.lines.write_component.Goals as goal

pub returns-in_err-write_byte : goal.returns-in_err-write_byte
returns-in_err-write_byte g c =
    writes_failed _ _ _ _ _ _ _ _ _ _ _ _ _ c.in_err-write_byte.was c.from_residual.ensures.0
    (byte-parts c.args.component.now c.loop-byte.byte-index (omega (arith, c.loop-byte-test.true, c.loop-byte.auto.byte-index-end)))
    c.loop-byte.invariant.text c.loop-byte.invariant.later c.write_byte.ensures

pub loop-byte-preserved : goal.loop-byte-preserved
loop-byte-preserved g c = record {
  text = subst (λ (l : List ℕ). Gains (g.S.Sink.got c.args.sink.now) l (g.S.Sink.got c.write_byte.new.sink))
      (sym (next-byte c.args.component.now c.loop-byte.byte-index (omega (arith, c.loop-byte-test.true, c.loop-byte.auto.byte-index-end))))
      (gains_both _ _ _ _ _ c.loop-byte.invariant.text c.in_ok-write_byte.ensures.ok);
  later = omega (arith, c.loop-byte.invariant.later, c.write_byte.ensures.cause.later);
}
