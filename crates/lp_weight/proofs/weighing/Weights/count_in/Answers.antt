use Rattle.std.proofs.Common.{subst}
use Rattle.lp_spec.specs.Trees.{Pi}
use Rattle.lp_term.specs.Tables.{tree_at}
use Rattle.lp_term.specs.TableLaws.{Holds-tree_at}
use Rattle.lp_weight.specs.Spreads.{IsFront}
use Rattle.lp_weight.proofs.HeadLaws.{plain-count}
use Rattle.lp_weight.proofs.weighing.Weights.count_in.Goals as goal

pub returns-in-Plain-clause-count : goal.returns-in-Plain-clause-count
returns-in-Plain-clause-count c =
    let m = c.args.base.now in
    let t = tree_at m.table c.args.product.0 in
    let a = c.requires.product.0 in
    let b = tree_at m.table c.args.body.0 in
    let is = c.requires.weights.column c.args.product.0 c.get.result c.get.ensures in
    plain-count m t a b c.in-Plain.count (subst (IsFront m t) c.in-Plain.is is.front) (Holds-tree_at m.table c.args.product.0 (Pi a b) c.requires.product.1)
