use Rattle.std.proofs.Common.{◌≡◌, ℕ, Result, Err, take, get_or, sym, ap, subst, ◌∙◌, rules}
use Rattle.std.proofs.lemmas.List.{take_all}
use Rattle.std.specs.List.{flat_map}
use Rattle.article_read.specs.declared.lines.LineFault.{LineFault}
use Rattle.article_read.specs.Reading.{ReadsAs}
use Rattle.article_read.proofs.Whole.{reads_as, stops_in}
use Rattle.article_read.proofs.lines.read_all.Goals as goal

pub returns : goal.returns
returns c =
    let all : take c.loop-piece.piece-index c.args.pieces.now ≡ c.args.pieces.now =
    take_all c.loop-piece.piece-index c.args.pieces.now c.loop-piece-test.false in
    reads_as _ _ _ _ _ c.finish.result (rw all at c.loop-piece.invariant) c.finish.ensures.ends

pub returns-in_err-feed : goal.returns-in_err-feed
returns-in_err-feed c =
    let piece : c.deref.result.now ≡ (get_or c.args.pieces.now c.loop-piece.piece-index c.piece-item.result).items =
    c.deref.ensures.value ∙ ap (λ p. p.items) c.piece-item.is in
    let answer : ◌≡◌ {A = Result ℕ LineFault} c.from_residual.result (Err c.in_err-feed.field-0.0) = search rules in
    subst (ReadsAs (flat_map (λ p. p.items) c.args.pieces.now) c.args.out.now.items c.feed.new.out.items) (sym answer)
    (stops_in (λ p. p.items) c.args.pieces.now c.loop-piece.piece-index c.piece-item.result c.loop-piece-test.true _ _ _ _ _ c.in_err-feed.field-0.0
    c.loop-piece.invariant (rw piece at c.feed.ensures.feeds) c.in_err-feed.ensures.answer)
