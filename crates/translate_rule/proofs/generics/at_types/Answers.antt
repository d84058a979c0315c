use Rattle.std.proofs.Common.{arith}
use Rattle.lp_spec.specs.Trees.{Lam}
use Rattle.translate_rule.proofs.GenericLaws.{under-none, under-more, abstractions-made}
use Rattle.translate_rule.proofs.generics.at_types.Goals as goal

pub loop-left-init : goal.loop-left-init
loop-left-init c = under-none Lam _ _ _ c.requires

pub loop-left-preserved : goal.loop-left-preserved
loop-left-preserved c =
    under-more Lam _ _ _ _ _ c.loop-left.left _ c.loop-left.abstraction c.in_ok-domain.domain c.in_ok-abstraction.abstraction
    (omega (arith, c.loop-left-test.true)) c.loop-left.invariant c.in_ok-domain.ensures.keeps c.in_ok-domain.ensures.made
    c.in_ok-abstraction.ensures.keeps c.in_ok-abstraction.ensures.known c.in_ok-abstraction.ensures.made

pub returns-clause-made : goal.returns-clause-made
returns-clause-made c = abstractions-made _ _ _ c.loop-left.left _ c.loop-left.abstraction (omega (arith, c.loop-left-test.false)) c.loop-left.invariant
