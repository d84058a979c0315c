use Rattle.std.proofs.Common.{subst, arith, sym, List, ℕ}
use Rattle.bridge_base.specs.Outside.{Gains}
use Rattle.bridge_base.specs.Gaining.{gains_both}
use Rattle.article_lines.specs.WritingLaws.{writes_failed}
use Rattle.article_lines.proofs.NameTexts.{next-component, component-parts}
use Rattle.article_lines.proofs.lines.write_rest.Goals as goal

pub returns-in_err-write_behind : goal.returns-in_err-write_behind
returns-in_err-write_behind g c =
    writes_failed _ _ _ _ _ _ _ _ _ _ _ _ _ c.in_err-write_behind.was c.from_residual.ensures.0
    (component-parts c.args.name.now c.loop-index.index c.component.result.now c.loop-index.invariant.from c.component.ensures)
    c.loop-index.invariant.text c.loop-index.invariant.later c.write_behind.ensures

pub loop-index-preserved : goal.loop-index-preserved
loop-index-preserved g c = record {
  text = subst (λ (l : List ℕ). Gains (g.S.Sink.got c.args.sink.now) l (g.S.Sink.got c.write_behind.new.sink))
      (sym (next-component c.args.name.now c.loop-index.index c.component.result.now c.loop-index.invariant.from c.component.ensures))
      (gains_both _ _ _ _ _ c.loop-index.invariant.text c.in_ok-write_behind.ensures.ok);
  later = omega (arith, c.loop-index.invariant.later, c.write_behind.ensures.cause.later);
  from = omega (arith, c.loop-index.invariant.from);
}
