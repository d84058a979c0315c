use Rattle.std.proofs.Common.{ap, subst, ◌∙◌}
use Rattle.lp_term.specs.TableLaws.{tree_at-Stays}
use Rattle.share.specs.Typings.{IsContext}
use Rattle.share.specs.declared.typing.Turn.TheVariants as turn
use Rattle.std.proofs.lemmas.Result.{IfOk-weaker}
use Rattle.share.proofs.TurnLaws.{function-told, ready-Keeps, AreAnswers-Keeps}
use Rattle.share.proofs.typing.function_call.Goals as goal

pub value_call-requires-clause-answers : goal.value_call-requires-clause-answers
value_call-requires-clause-answers c = ready-Keeps c.args.table.now c.term.new.table c.args.context.0 _ c.in_ok-functions.ensures.keeps c.requires.context
    c.requires.answers

pub returns-in-Known-Some-clause-turn : goal.returns-in-Known-Some-clause-turn
returns-in-Known-Some-clause-turn c =
    IfOk-weaker c.value_call.result _ _
    (λ r f m h a. function-told m c.args.table.now c.term.new.table c.value_call.new.table c.args.context.0 c.args.function.0 c.args.argument.0
    c.in-Known-Some.functions c.in_ok-functions.field-0 r c.in_ok-functions.ensures.keeps c.requires.context c.requires.argument
    (c.in-Known-Some.is ∙ ap turn.Known c.in-Known-Some.field-0-is)
    (c.in_ok-functions.ensures.turn m h a)
    (f m (subst (IsContext m) (tree_at-Stays c.in_ok-functions.ensures.keeps.stays c.args.context.0 c.requires.context) h)
    (AreAnswers-Keeps m _ _ _ c.in_ok-functions.ensures.keeps a)))
    c.value_call.ensures.turn
