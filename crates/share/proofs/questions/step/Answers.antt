use Rattle.std.proofs.lemmas.Result.{on_ok_weaker}
use Rattle.holide_sig.specs.Modules.{declarations_of}
use Rattle.share.proofs.AskingLaws.{asking-below, asking-known, asking-needs}
use Rattle.share.proofs.questions.step.Goals as goal

pub turn-requires-clause-held : goal.turn-requires-clause-held
turn-requires-clause-held c = c.requires.asking.held

pub turn-requires-clause-answers : goal.turn-requires-clause-answers
turn-requires-clause-answers c = c.requires.asking.answers

pub turn-requires-clause-question : goal.turn-requires-clause-question
turn-requires-clause-question c =
    (c.next-top.ensures (declarations_of c.args.source.now) c.args.source.now.table c.requires.question c.requires.asking.waiting).0

pub returns-in-Known-clause-asking : goal.returns-in-Known-clause-asking
returns-in-Known-clause-asking c =
    let n = c.next-top.ensures (declarations_of c.args.source.now) c.args.source.now.table c.requires.question c.requires.asking.waiting in
    on_ok_weaker c.note.result
    (λ f. asking-known c.args.source.now c.turn.new.source _ _ c.next-top.new.waiting c.next-top.result c.in-Known.told c.in_ok-told.field-0
    c.in_ok-told.ensures.decls c.in_ok-told.ensures.keeps (asking-below _ _ _ _ c.requires.asking n.1) n.0.0 c.in-Known.is c.in_ok-told.ensures.turn f)
    c.note.ensures

pub returns-in-Needs-clause-asking : goal.returns-in-Needs-clause-asking
returns-in-Needs-clause-asking c =
    let n = c.next-top.ensures (declarations_of c.args.source.now) c.args.source.now.table c.requires.question c.requires.asking.waiting in
    on_ok_weaker c.wait_for.result
    (λ f. asking-needs c.args.source.now c.turn.new.source _ c.next-top.new.waiting _ c.next-top.result c.in-Needs.first c.in_ok-told.field-0
    c.in_ok-told.ensures.decls c.in_ok-told.ensures.keeps (asking-below _ _ _ _ c.requires.asking n.1) n.0 c.in-Needs.is c.in_ok-told.ensures.turn f)
    c.wait_for.ensures
