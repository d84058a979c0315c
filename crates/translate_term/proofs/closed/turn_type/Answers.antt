use Rattle.std.proofs.Common.{arith}
use Rattle.std.proofs.lemmas.Result.{IfOk-weaker}
use Rattle.translate_term.proofs.ClosedTurns.{type_two, type_parts, type_applied}
use Rattle.translate_term.proofs.closed.turn_type.Goals as goal

pub begin_type-requires : goal.begin_type-requires
begin_type-requires c = (c.requires.0, c.requires.1, rw c.in-Next.is at c.requires.2)

pub returns-in-Next-clause-walk : goal.returns-in-Next-clause-walk
returns-in-Next-clause-walk c = rw c.in-Next.is c.begin_type.ensures.walk

pub returns-in-Next-clause-less : goal.returns-in-Next-clause-less
returns-in-Next-clause-less c = rw c.in-Next.is (IfOk-weaker c.begin_type.result _ _ (λ left l. omega (arith, l)) c.begin_type.ensures.less)

pub two-requires : goal.two-requires
two-requires c = type_two c.requires.0 c.requires.1 _ _ _ _ _ (rw c.in-Apply.is at c.requires.2)

pub put_node-requires : goal.put_node-requires
put_node-requires c = type_parts c.requires.0 c.requires.1 _ _ _ _ c.two.result.1 c.two.result.0 _ _ c.two.ensures (rw c.in-Apply.is at c.requires.2)

pub returns-in_ok-put_node-in-Apply-clause-walk : goal.returns-in_ok-put_node-in-Apply-clause-walk
returns-in_ok-put_node-in-Apply-clause-walk c =
    λ given root w.
    type_applied given root _ c.args.depth c.args.walk.now.works _ c.two.result.1 c.two.result.0 _ _ _ _ c.two.ensures c.put_node.ensures.grows
    c.in_ok-put_node-in-Apply.ensures.made (rw c.in-Apply.is at w)
