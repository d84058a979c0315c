use Rattle.std.proofs.Common.{◌∙◌, sym, subst, arith}
use Rattle.bridge_module.specs.Stops.{StopsText}
use Rattle.bridge_module.proofs.Readings.{judged-IsWithin, piece_read, feed_refused}
use Rattle.bridge_module.proofs.reading.feed_text.Goals as goal

pub returns-in-Err-feed-clause-refused : goal.returns-in-Err-feed-clause-refused
returns-in-Err-feed-clause-refused g c =
    subst (StopsText (g.H.Shelf.left c.args.shelf.now)) (sym c.stop_of.ensures.stop)
    (feed_refused _ _ _ c.loop-count.reader _ c.loop-count.invariant.read c.in-Err-feed.fault c.in-Ok.ensures.bytes c.in-Err-feed.ensures.judges)

pub loop-count-preserved : goal.loop-count-preserved
loop-count-preserved g c =
    let h = c.loop-count.invariant.read in
    record {
      count = omega (arith, c.loop-count.invariant.count, c.read.ensures.cause.later);
      told = c.read.ensures.told ∙ c.loop-count.invariant.told;
      begun = c.read.ensures.begun ∙ c.loop-count.invariant.begun;
      read = piece_read _ _ _ c.loop-count.reader c.feed.new.self _ h c.in-Ok.ensures.bytes c.feed.ensures.limit c.feed.ensures.feeds c.feed.ensures.goes
          (judged-IsWithin _ _ c.feed.result c.in_default.not-Err (c.feed.ensures.judges h.text h.fed));
    }
