use Rattle.std.proofs.Common.{◌∙◌, sym}
use Rattle.share.proofs.TurnLaws.{same-asked, same-noted}
use Rattle.share.proofs.typing.term.Goals as goal

pub returns-in-Some-clause-turn : goal.returns-in-Some-clause-turn
returns-in-Some-clause-turn c = λ m h a.
    let around = c.in_ok-around in
    let question = c.in_ok-question in
    same-noted c.args.table.now c.context_for.new.table _ question.question.0 c.args.context.0 around.around.0 c.args.tree.0 _ c.in-Some.told
    around.ensures.keeps c.requires.tree question.ensures.made question.ensures.keeps (sym c.in-Some.is ∙ c.copied.ensures ∙ c.get.ensures.value) m
    (around.ensures.same m h) a

pub returns-in-None-clause-turn : goal.returns-in-None-clause-turn
returns-in-None-clause-turn c = λ m h a. same-asked _ _ c.in_ok-question.question c.in_ok-around.around.0 c.args.tree.0 c.in_ok-question.ensures.made m
    (c.in_ok-around.ensures.same m h).0
