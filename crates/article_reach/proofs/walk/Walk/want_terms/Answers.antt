use Rattle.std.proofs.Common.{arith}
use Rattle.article_reach.specs.FoundPairs.{term_put}
use Rattle.article_reach.proofs.Wanted.{next-WalksOn, put-known}
use Rattle.article_reach.proofs.walk.Walk.want_terms.Goals as goal

pub loop-pair-preserved : goal.loop-pair-preserved
loop-pair-preserved c =
    let p = c.args.proof.now in
    let i = c.loop-pair.pair-index in
    next-WalksOn p (λ pair. term_put p.trees pair.0 pair.1) c.args.terms.now i c.pair-item.result c.args.self.now c.loop-pair.self c.want_term_put.new.self
    (omega (arith, c.loop-pair-test.true)) c.pair-item.is c.loop-pair.invariant c.in_ok-want_term_put.ensures

pub want_term_put-requires-clause-variable : goal.want_term_put-requires-clause-variable
want_term_put-requires-clause-variable c =
    (put-known c.args.proof.now.trees c.args.terms.now c.loop-pair.pair-index c.pair-item.result c.requires.known (omega (arith, c.loop-pair-test.true))
    c.pair-item.is).0

pub want_term_put-requires-clause-term : goal.want_term_put-requires-clause-term
want_term_put-requires-clause-term c =
    (put-known c.args.proof.now.trees c.args.terms.now c.loop-pair.pair-index c.pair-item.result c.requires.known (omega (arith, c.loop-pair-test.true))
    c.pair-item.is).1
