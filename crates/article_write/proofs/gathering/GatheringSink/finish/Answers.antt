use Rattle.std.proofs.Common.{subst, []}
use Rattle.article_lines.specs.Writing.{Writes}
use Rattle.article_write.specs.Gathering.{told_since}
use Rattle.article_write.proofs.GatheringLaws.{writes_given, writes_failed}
use Rattle.article_write.proofs.gathering.GatheringSink.finish.Goals as goal

pub returns-in-Ok : goal.returns-in-Ok
returns-in-Ok g c old faults text w =
    let begun = g.S.Sink.got c.args.self.begun.value in
    let got = g.S.Sink.got c.args.self.sink in
    let i = g.S.Sink.faults c.args.self.sink in
    writes_given old begun got c.args.self.waiting text faults i (g.S.Sink.faults c.given.result.0) (g.S.Sink.got c.given.result.0) c.given.ensures.kept.0
    c.given.result.1 c.args.self.grown
    (subst (λ o. Writes (told_since old old []) faults text (told_since begun got c.args.self.waiting) i o) c.in-Ok.is w) c.given.ensures.ok
    c.given.ensures.kept.1 c.given.ensures.grown c.given.ensures.cause

pub returns : goal.returns
returns g c old faults text w =
    let begun = g.S.Sink.got c.args.self.begun.value in
    let got = g.S.Sink.got c.args.self.sink in
    let i = g.S.Sink.faults c.args.self.sink in
    writes_failed old begun got c.args.self.waiting text faults i i c.in-Err.failed c.args.self.grown
    (subst (λ o. Writes (told_since old old []) faults text (told_since begun got c.args.self.waiting) i o) c.in-Err.is w)
