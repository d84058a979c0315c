use Rattle.std.proofs.Common.{refl, sym, ◌∙◌}
use Rattle.lp_term.specs.TableLaws.{Keeps-refl, Keeps-trans}
use Rattle.share.proofs.AskingLaws.{asked-known, question-stays}
use Rattle.share.proofs.questions.ask.Goals as goal

pub loop-step-init : goal.loop-step-init
loop-step-init c = record { decls = refl; keeps = Keeps-refl c.args.source.now.table; asking = c.requires.asking }

pub loop-step-preserved : goal.loop-step-preserved
loop-step-preserved c =
    let i = c.loop-step.invariant in
    record { decls = c.in_ok-step.ensures.decls ∙ i.decls; keeps = Keeps-trans i.keeps c.in_ok-step.ensures.keeps; asking = c.in_ok-step.ensures.asking }

pub returns-in-Some-clause-decls : goal.returns-in-Some-clause-decls
returns-in-Some-clause-decls c = c.loop-step.invariant.decls

pub returns-in-Some-clause-keeps : goal.returns-in-Some-clause-keeps
returns-in-Some-clause-keeps c = c.loop-step.invariant.keeps

pub returns-in-Some-clause-asking : goal.returns-in-Some-clause-asking
returns-in-Some-clause-asking c = c.loop-step.invariant.asking

pub step-requires-clause-asking : goal.step-requires-clause-asking
step-requires-clause-asking c = c.loop-step.invariant.asking

pub returns-in_err-step-clause-decls : goal.returns-in_err-step-clause-decls
returns-in_err-step-clause-decls c = c.in_err-step.ensures.decls ∙ c.loop-step.invariant.decls

pub returns-in_err-step-clause-keeps : goal.returns-in_err-step-clause-keeps
returns-in_err-step-clause-keeps c = Keeps-trans c.loop-step.invariant.keeps c.in_err-step.ensures.keeps

pub returns-clause-decls : goal.returns-clause-decls
returns-clause-decls c = c.loop-step.invariant.decls

pub returns-clause-keeps : goal.returns-clause-keeps
returns-clause-keeps c = c.loop-step.invariant.keeps

pub returns-in-Some-clause-told : goal.returns-in-Some-clause-told
returns-in-Some-clause-told c =
    let i = c.loop-step.invariant in
    asked-known c.args.source.now c.loop-step.source _ c.loop-step.waiting c.args.question c.in-Some.told i.decls i.keeps c.requires.asking.held i.asking
    c.requires.question.0 (sym c.in-Some.is ∙ c.copied.ensures ∙ c.get.ensures.value)

pub step-requires-clause-question : goal.step-requires-clause-question
step-requires-clause-question c =
    let i = c.loop-step.invariant in
    question-stays c.args.source.now c.loop-step.source c.args.question i.decls i.keeps c.requires.asking.held c.requires.question
