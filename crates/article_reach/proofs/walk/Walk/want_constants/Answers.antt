use Rattle.std.proofs.Common.{arith}
use Rattle.article_reach.specs.FoundPairs.{variable_found}
use Rattle.article_reach.proofs.Wanted.{next-WalksOn, constant-known}
use Rattle.article_reach.proofs.walk.Walk.want_constants.Goals as goal

pub loop-pair-preserved : goal.loop-pair-preserved
loop-pair-preserved c =
    let p = c.args.proof.now in
    let i = c.loop-pair.pair-index in
    next-WalksOn p (λ pair. variable_found p.trees pair.1) c.args.pairs.now i c.pair-item.result c.args.self.now c.loop-pair.self c.want_variable.new.self
    (omega (arith, c.loop-pair-test.true)) c.pair-item.is c.loop-pair.invariant c.in_ok-want_variable.ensures

pub want_variable-requires-clause-known : goal.want_variable-requires-clause-known
want_variable-requires-clause-known c = constant-known c.args.proof.now.trees c.args.pairs.now c.loop-pair.pair-index c.pair-item.result c.requires.known
    (omega (arith, c.loop-pair-test.true)) c.pair-item.is
