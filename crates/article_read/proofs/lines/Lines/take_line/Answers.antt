use Rattle.std.proofs.Common.{◌∷◌, []}
use Rattle.std.specs.Result.{result_err}
use Rattle.article_spec.specs.Lines.{newline}
use Rattle.article_read.proofs.Steps.{line_ends, feeds_both, feeds_more}
use Rattle.article_read.proofs.lines.Lines.take_line.Goals as goal

pub returns-then-is_whole-clause-feeds : goal.returns-then-is_whole-clause-feeds
returns-then-is_whole-clause-feeds c =
    let whole = c.is_whole.ensures in
    let yes = c.if-is_whole.true in
    line_ends c.args.self.now c.give-given.ensures.kept c.requires.none c.end_line.new.self c.args.line.now c.args.commands.now.items
    c.give-given.new.commands.items (result_err c.give-given.result) (whole.empty yes) c.requires.line (whole.short yes) (whole.room yes)
    c.give-given.ensures.answers c.end_line.ensures.behind

pub returns-in_err-take_part-clause-feeds : goal.returns-in_err-take_part-clause-feeds
returns-in_err-take_part-clause-feeds c =
    feeds_more c.in_err-take_part.field-0.0 c.in_err-take_part.ensures.answer (c.take_part.ensures.feeds c.args.commands.now.items) (newline ∷ [])

pub returns-clause-feeds : goal.returns-clause-feeds
returns-clause-feeds c = feeds_both (c.take_part.ensures.feeds c.args.commands.now.items) c.take_newline.ensures.feeds
