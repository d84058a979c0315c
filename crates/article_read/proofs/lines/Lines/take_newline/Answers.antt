use Rattle.std.proofs.Common.{◌≡◌, length, ap, subst, ◌∙◌, arith}
use Rattle.std.specs.Result.{result_err}
use Rattle.article_read.specs.OpenLines.{AnswersLine, behind_line}
use Rattle.article_read.proofs.Steps.{newline_full, newline_ends}
use Rattle.article_read.proofs.lines.Lines.take_newline.Goals as goal

pub returns-then-is_full-clause-feeds : goal.returns-then-is_full-clause-feeds
returns-then-is_full-clause-feeds c =
    newline_full c.args.self.now c.is_full.ensures.kept c.requires c.refuse.new.self c.args.commands.now.items (c.is_full.ensures.full c.if-is_full.true)
    c.refuse.ensures.stopped

pub returns-clause-feeds : goal.returns-clause-feeds
returns-clause-feeds c =
    let r = c.args.self.now in
    let before = c.args.commands.now.items in
    let after = c.give-given.new.commands.items in
    let given = result_err c.give-given.result in
    let line : c.deref.result.now ≡ r.rest = c.deref.ensures.value ∙ ap (λ s. s.rest) c.self.view_is in
    let held = ap (λ s. s.rest) c.self.view_is in
    let count : c.len-count.result ≡ length r.rest = omega (arith, c.len-count.ensures, ap length held) in
    newline_ends r c.is_full.ensures.kept c.requires c.end_line.new.self before after given (c.is_full.ensures.room c.if-is_full.false)
    (subst (λ xs. AnswersLine given r.number xs before after) line c.give-given.ensures.answers)
    (c.end_line.ensures.behind ∙ ap (λ k. behind_line r k given) count)
