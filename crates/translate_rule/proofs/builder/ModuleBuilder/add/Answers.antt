use Rattle.std.proofs.lemmas.Result.{on_ok_weaker}
use Rattle.translate_rule.proofs.TurnLaws.{kind-step, kind-noted}
use Rattle.translate_rule.proofs.builder.ModuleBuilder.add.Goals as goal

pub add_step-requires-clause-next : goal.add_step-requires-clause-next
add_step-requires-clause-next c =
    let q = c.requires.next in
    (q.0, q.1, q.2, q.3, kind-step c.args.one.now q.2 c.in-Step.is q.4, q.5)

pub add_symbol-requires-clause-next : goal.add_symbol-requires-clause-next
add_symbol-requires-clause-next c =
    let q = c.requires.next in
    (q.0, q.1, q.2, q.3, kind-noted c.args.one.now q.2 c.in_default.not-Step q.4, q.5)

pub returns-in-Step-clause-added : goal.returns-in-Step-clause-added
returns-in-Step-clause-added c = on_ok_weaker c.add_step.result
    (λ h earlier later y whole kind built. h earlier later y whole (kind-step c.args.one.now y c.in-Step.is kind) built) c.add_step.ensures.added

pub returns-in_default-clause-added : goal.returns-in_default-clause-added
returns-in_default-clause-added c = on_ok_weaker c.add_symbol.result
    (λ h earlier later y whole kind built. h earlier later y whole (kind-noted c.args.one.now y c.in_default.not-Step kind) built) c.add_symbol.ensures.added
