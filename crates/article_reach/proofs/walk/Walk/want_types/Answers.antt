use Rattle.std.proofs.Common.{arith}
use Rattle.hol_term.specs.Tables.{type_at}
use Rattle.article_reach.specs.Found.{type_found}
use Rattle.article_reach.proofs.Wanted.{next-WalksOn, type-known}
use Rattle.article_reach.proofs.walk.Walk.want_types.Goals as goal

pub loop-pair-preserved : goal.loop-pair-preserved
loop-pair-preserved c =
    let p = c.args.proof.now in
    let i = c.loop-pair.pair-index in
    next-WalksOn p (λ pair. type_found (type_at p.trees pair.1.0)) c.args.types.now i c.pair-item.result c.args.self.now c.loop-pair.self c.want_type.new.self
    (omega (arith, c.loop-pair-test.true)) c.pair-item.is c.loop-pair.invariant c.in_ok-want_type.ensures

pub want_type-requires-clause-known : goal.want_type-requires-clause-known
want_type-requires-clause-known c = type-known c.args.proof.now.trees c.args.types.now c.loop-pair.pair-index c.pair-item.result c.requires.known
    (omega (arith, c.loop-pair-test.true)) c.pair-item.is
