use Rattle.std.proofs.Common.{subst, arith, sym, List, ℕ}
use Rattle.bridge_base.specs.Outside.{Gains}
use Rattle.bridge_base.specs.Gaining.{gains_both}
use Rattle.article_lines.specs.WritingLaws.{writes_failed}
use Rattle.article_lines.proofs.NameTexts.{next-piece, piece-parts}
use Rattle.article_lines.proofs.lines.put_all.Goals as goal

pub returns-in_err-put : goal.returns-in_err-put
returns-in_err-put g c =
    writes_failed _ _ _ _ _ _ _ _ _ _ _ _ _ c.in_err-put.was c.from_residual.ensures.0
    (piece-parts c.args.pieces.now c.loop-piece.piece-index _ c.loop-piece-test.true)
    c.loop-piece.invariant.text c.loop-piece.invariant.later c.put.ensures

pub loop-piece-preserved : goal.loop-piece-preserved
loop-piece-preserved g c = record {
  text = subst (λ (l : List ℕ). Gains (g.S.Sink.got c.args.sink.now) l (g.S.Sink.got c.put.new.sink))
      (sym (next-piece c.args.pieces.now c.loop-piece.piece-index _ c.loop-piece-test.true))
      (gains_both _ _ _ _ _ c.loop-piece.invariant.text c.in_ok-put.ensures.ok);
  later = omega (arith, c.loop-piece.invariant.later, c.put.ensures.cause.later);
}
