use Rattle.std.proofs.Common.{ap}
use Rattle.article_write_spec.specs.Article.{article}
use Rattle.article_write.proofs.GatheringLaws.{writes_begun}
use Rattle.article_write.proofs.writing.write_gathered.Goals as goal

pub returns : goal.returns
returns g c version run h =
    let begun = c.new-gathering.ensures in
    c.finish.ensures (g.S.Sink.got c.args.sink) (g.S.Sink.faults c.args.sink) (article version run)
    (writes_begun (g.S.Sink.got c.args.sink) (g.S.Sink.got c.new-gathering.result.begun.value) (g.S.Sink.got c.new-gathering.result.sink)
    c.new-gathering.result.waiting (g.S.Sink.faults c.args.sink) (g.S.Sink.faults c.new-gathering.result.sink)
    (article version run) _ _ c.write_planned-outcome.result (ap g.S.Sink.got begun.begun) (ap g.S.Sink.got begun.sink) begun.none
    (ap g.S.Sink.faults begun.sink) (c.write_planned-outcome.ensures version run h))
