use Rattle.std.proofs.Common.{arith, refl, ap, ◌∙◌, Some}
use Rattle.lp_term.specs.TableLaws.{Keeps-trans, tree_at-Holds}
use Rattle.translate_term.specs.GrowLaws.{Grows-table, Grows-trans}
use Rattle.translate_term.proofs.ClosedParts.{types_step, types_end}
use Rattle.translate_term.proofs.closed.over_types.Goals as goal

pub loop-left-preserved : goal.loop-left-preserved
loop-left-preserved c = (
  Grows-trans c.loop-left.invariant.0 (record { table = Keeps-trans c.in_ok-domain.ensures.keeps c.in_ok-product.ensures.keeps; decls = refl }),
  c.in_ok-product.ensures.known,
  types_step _ _ _ c.in_ok-domain.domain c.loop-left.product c.in_ok-product.product c.loop-left.left _ _ c.in_ok-domain.ensures.keeps c.loop-left.invariant.1
      c.in_ok-domain.ensures.made c.in_ok-product.ensures.made
      (omega (arith, c.loop-left-test.true)) c.loop-left.invariant.2,
)

pub returns-clause-made : goal.returns-clause-made
returns-clause-made c =
    tree_at-Holds _ c.loop-left.product.0 c.loop-left.invariant.1
    ∙ ap Some (types_end c.loop-left.left _ _ (omega (arith, c.loop-left-test.false)) c.loop-left.invariant.2)

pub returns-in_err-domain-clause-grows : goal.returns-in_err-domain-clause-grows
returns-in_err-domain-clause-grows c = Grows-trans c.loop-left.invariant.0 (Grows-table c.loop-left.target _ c.node.ensures.keeps)

pub returns-in_err-product-clause-grows : goal.returns-in_err-product-clause-grows
returns-in_err-product-clause-grows c = Grows-trans c.loop-left.invariant.0
    (Grows-table c.loop-left.target _ (Keeps-trans c.in_ok-domain.ensures.keeps c.node-in-loop-left.ensures.keeps))
