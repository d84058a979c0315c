use Rattle.std.proofs.Common.{ap, ◌∙◌}
use Rattle.std.proofs.lemmas.Result.{IfOk-weaker}
use Rattle.share.specs.declared.typing.Turn.TheVariants as turn
use Rattle.share.proofs.TurnLaws.{abstraction-told, abstraction-none, known-none, part-told-simple}
use Rattle.share.proofs.typing.abstraction.Goals as goal

pub returns-in-Known-Some-clause-turn : goal.returns-in-Known-Some-clause-turn
returns-in-Known-Some-clause-turn c =
    IfOk-weaker c.under.result _ _
    (λ r f m h a.
    let e = c.in-Known-Some.is ∙ ap turn.Known c.in-Known-Some.field-0-is in
    abstraction-told m c.args.table.now c.under.new.table c.args.context.0 c.args.domain.0 c.args.body.0 c.in-Known-Some.ty c.simple_part.result r e
    (c.simple_part.ensures m a) h
    (f m (part-told-simple m c.args.table.now c.args.domain.0 c.in-Known-Some.ty c.simple_part.result e (c.simple_part.ensures m a)) h a))
    c.under.ensures.turn

pub returns-in-Known-None-clause-turn : goal.returns-in-Known-None-clause-turn
returns-in-Known-None-clause-turn c = λ m h a. abstraction-none m c.args.table.now c.args.table.now c.args.context.0 c.args.domain.0 c.args.body.0
    (known-none m c.args.table.now _ c.simple_part.result (c.in-Known-None.is ∙ ap turn.Known c.in-Known-None.field-0-is) (c.simple_part.ensures m a)) h
