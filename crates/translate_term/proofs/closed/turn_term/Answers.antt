use Rattle.std.proofs.Common.{arith}
use Rattle.std.proofs.lemmas.Result.{IfOk-weaker}
use Rattle.translate_term.proofs.ClosedTurns.{application_two, application_parts, application_made, abstraction_two, abstraction_parts, abstraction_made}
use Rattle.translate_term.proofs.closed.turn_term.Goals as goal

pub begin_term-requires : goal.begin_term-requires
begin_term-requires c = (c.requires.0, c.requires.1, rw c.in-Next.is at c.requires.2)

pub returns-in-Next-clause-walk : goal.returns-in-Next-clause-walk
returns-in-Next-clause-walk c = rw c.in-Next.is c.begin_term.ensures.walk

pub returns-in-Next-clause-less : goal.returns-in-Next-clause-less
returns-in-Next-clause-less c = IfOk-weaker c.begin_term.result _ _ (λ left l. omega (arith, l)) c.begin_term.ensures.less

pub two-requires : goal.two-requires
two-requires c = application_two c.requires.0 c.requires.1 _ _ _ _ _ (rw c.in-Apply.is at c.requires.2)

pub put_node-requires : goal.put_node-requires
put_node-requires c = application_parts c.requires.0 c.requires.1 _ _ _ _ c.two.result.1 c.two.result.0 _ _ c.two.ensures (rw c.in-Apply.is at c.requires.2)

pub returns-in_ok-put_node-in-Apply-clause-walk : goal.returns-in_ok-put_node-in-Apply-clause-walk
returns-in_ok-put_node-in-Apply-clause-walk c =
    λ given root w.
    application_made given root _ c.args.type_vars c.args.walk.now.works _ c.two.result.1 c.two.result.0 _ _ _ _ c.two.ensures c.put_node.ensures.grows
    c.in_ok-put_node-in-Apply.ensures.made (rw c.in-Apply.is at w)

pub two-requires-in-Bind : goal.two-requires-in-Bind
two-requires-in-Bind c = abstraction_two c.requires.0 c.requires.1 _ _ _ _ _ (rw c.in-Bind.is at c.requires.2)

pub put_abstraction-requires : goal.put_abstraction-requires
put_abstraction-requires c = abstraction_parts c.requires.0 c.requires.1 _ _ _ _ c.two-in-Bind.result.1 c.two-in-Bind.result.0 _ _ c.two-in-Bind.ensures
    (rw c.in-Bind.is at c.requires.2)

pub returns-in_ok-put_abstraction-in-Bind-clause-walk : goal.returns-in_ok-put_abstraction-in-Bind-clause-walk
returns-in_ok-put_abstraction-in-Bind-clause-walk c =
    λ given root w.
    abstraction_made given root _ c.args.type_vars c.args.walk.now.works _ c.two-in-Bind.result.1 c.two-in-Bind.result.0 _ _ _ _ c.two-in-Bind.ensures
    c.put_abstraction.ensures.grows c.in_ok-put_abstraction-in-Bind.ensures.made (rw c.in-Bind.is at w)
