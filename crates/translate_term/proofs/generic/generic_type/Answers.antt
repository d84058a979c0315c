use Rattle.std.proofs.Common.{arith, ◌≡◌, true}
use Rattle.lp_term.specs.Tables.{tree_of_node}
use Rattle.translate_term.proofs.GenericLaws.{is_other, under_product, under_application, under_other}
use Rattle.translate_term.proofs.generic.generic_type.Goals as goal

pub loop-body-preserved : goal.loop-body-preserved
loop-body-preserved c = (
  omega (arith, c.loop-body.invariant.0, c.in-Pi.ensures.lower.1),
  omega (arith, c.loop-body.invariant.1, c.in-Pi.ensures.lower.1),
  λ k pattern e. under_product _ _ _ k pattern c.in-Pi.field-0 c.in-Pi.body c.in-Pi.ensures.is (c.loop-body.invariant.2 k pattern e),
)

pub returns-in-App-clause-is : goal.returns-in-App-clause-is
returns-in-App-clause-is c = λ k pattern e. under_application _ _ _ k pattern c.in-App.field-0 c.in-App.pattern c.in-App.ensures.is
    (c.loop-body.invariant.2 k pattern e)

pub returns-in-SortType : goal.returns-in-SortType
returns-in-SortType c =
    let other : is_other (tree_of_node c.args.source.now.table c.view.result) ≡ true = grind (arith, c.in-SortType.is) in
    record {
      is = λ k pattern e. absurd (under_other _ _ _ k pattern _ c.view.ensures.is other (c.loop-body.invariant.2 k pattern e));
      known =
          c.loop-body.invariant.0;
    }
