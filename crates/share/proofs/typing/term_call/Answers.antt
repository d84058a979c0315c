use Rattle.std.proofs.Common.{ap, ◌∙◌}
use Rattle.std.proofs.lemmas.Result.{IfOk-weaker}
use Rattle.share.specs.declared.typing.Turn.TheVariants as turn
use Rattle.share.proofs.TurnLaws.{application-constant, application-function, known-none, known-some}
use Rattle.share.proofs.typing.term_call.Goals as goal

pub returns-in-Known-Some-clause-turn : goal.returns-in-Known-Some-clause-turn
returns-in-Known-Some-clause-turn c =
    λ m h a.
    application-constant m c.args.table.now c.args.context.0 c.args.tree.0 c.args.function.0 c.args.argument.0 c.in-Known-Some.ty c.requires.tree
    (known-some m c.args.table.now _ c.constant_part.result c.in-Known-Some.ty (c.in-Known-Some.is ∙ ap turn.Known c.in-Known-Some.field-0-is)
    (c.constant_part.ensures m a))

pub returns-in-Known-None-clause-turn : goal.returns-in-Known-None-clause-turn
returns-in-Known-None-clause-turn c =
    IfOk-weaker c.function_call.result _ _
    (λ r f m h a.
    application-function m c.args.table.now c.function_call.new.table c.args.context.0 c.args.tree.0 c.args.function.0 c.args.argument.0 r c.requires.tree
    (known-none m c.args.table.now _ c.constant_part.result (c.in-Known-None.is ∙ ap turn.Known c.in-Known-None.field-0-is) (c.constant_part.ensures m a))
    (f m h a))
    c.function_call.ensures.turn
