use Rattle.std.proofs.Common.{arith}
use Rattle.lp_spec.specs.Trees.{Pi}
use Rattle.translate_rule.proofs.GenericLaws.{under-none, under-more, products-made}
use Rattle.translate_rule.proofs.generics.over_types.Goals as goal

pub loop-left-init : goal.loop-left-init
loop-left-init c = under-none Pi _ _ _ c.requires

pub loop-left-preserved : goal.loop-left-preserved
loop-left-preserved c =
    under-more Pi _ _ _ _ _ c.loop-left.left _ c.loop-left.product c.in_ok-domain.domain c.in_ok-product.product (omega (arith, c.loop-left-test.true))
    c.loop-left.invariant c.in_ok-domain.ensures.keeps c.in_ok-domain.ensures.made
    c.in_ok-product.ensures.keeps c.in_ok-product.ensures.known c.in_ok-product.ensures.made

pub returns-clause-made : goal.returns-clause-made
returns-clause-made c = products-made _ _ _ c.loop-left.left _ c.loop-left.product (omega (arith, c.loop-left-test.false)) c.loop-left.invariant
