use Rattle.std.proofs.Common.{ap, ◌∙◌}
use Rattle.share.specs.declared.typing.Turn.TheVariants as turn
use Rattle.share.proofs.TurnLaws.{value-told}
use Rattle.share.proofs.typing.value_call.Goals as goal

pub returns-in-Known-Some-clause-turn : goal.returns-in-Known-Some-clause-turn
returns-in-Known-Some-clause-turn c =
    λ m h a. value-told m c.args.table.now c.term.new.table c.args.context.0 c.args.functions.0 c.args.argument.0 c.in-Known-Some.ty c.in_ok-ty.field-0
    c.value_type.result c.in_ok-ty.ensures.keeps c.requires.functions (c.in-Known-Some.is ∙ ap turn.Known c.in-Known-Some.field-0-is)
    (c.in_ok-ty.ensures.turn m h a) c.value_type.ensures
