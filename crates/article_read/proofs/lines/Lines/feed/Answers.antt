use Rattle.std.proofs.Common.{sym, ap, ◌∙◌}
use Rattle.article_read.proofs.Fed.{HasFed-line, feeds_until, feeds_whole}
use Rattle.article_read.proofs.Steps.{feeds_stopped}
use Rattle.article_read.proofs.lines.Lines.feed.Goals as goal

pub returns-in-Some-clause-feeds : goal.returns-in-Some-clause-feeds
returns-in-Some-clause-feeds c = feeds_stopped c.args.self.now c.in-Some.fault (ap (λ r. r.fault) (sym c.self.view_is) ∙ c.in-Some.is) c.args.piece.now
    c.args.out.now.items

pub returns-in_err-take_line-clause-feeds : goal.returns-in_err-take_line-clause-feeds
returns-in_err-take_line-clause-feeds c =
    let cut = c.in-Some-first_line in
    feeds_until c.args.self.now c.loop-line.self c.take_line.new.self c.args.piece.now c.loop-line.rest.now cut.line.now cut.more.now c.args.out.now.items
    c.loop-line.out.items c.take_line.new.commands.items c.loop-line.invariant cut.ensures.cut c.take_line.ensures.feeds c.in_err-take_line.field-0.0
    c.in_err-take_line.ensures.answer

pub loop-line-preserved : goal.loop-line-preserved
loop-line-preserved c =
    let cut = c.in-Some-first_line in
    HasFed-line c.args.self.now c.loop-line.self c.take_line.new.self c.args.piece.now c.loop-line.rest.now cut.line.now cut.more.now c.args.out.now.items
    c.loop-line.out.items c.take_line.new.commands.items c.loop-line.invariant cut.ensures.cut c.take_line.ensures.feeds c.in_ok-take_line.ensures.answer
    c.in_ok-take_line.ensures.counted

pub returns-clause-feeds : goal.returns-clause-feeds
returns-clause-feeds c =
    feeds_whole c.args.self.now c.loop-line.self c.take_part.new.self c.args.piece.now c.loop-line.rest.now c.args.out.now.items c.loop-line.out.items
    c.loop-line.invariant (c.take_part.ensures.feeds c.loop-line.out.items)
