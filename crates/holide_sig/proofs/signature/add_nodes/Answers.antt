use Rattle.std.proofs.Common.{◌∙◌, sym}
use Rattle.lp_term.specs.declared.LpNode.TheVariants.{SortType}
use Rattle.holide_sig.proofs.Added.{after_turn, drop_step, first_parts, trees_with-nil}
use Rattle.holide_sig.proofs.signature.add_nodes.Goals as goal

pub loop-node-preserved : goal.loop-node-preserved
loop-node-preserved c =
    let here = drop_step c.args.nodes.now c.loop-node.node-index SortType c.loop-node-test.true in
    let t = after_turn _ _ _ _ _ _ here c.loop-node.invariant.new c.in_ok-node.ensures.adds c.in_ok-node.ensures.made in
    record { distinct = c.in_ok-node.ensures.distinct; new = t.0; trees = t.1 ∙ c.loop-node.invariant.trees }

pub node-requires : goal.node-requires
node-requires c =
    first_parts _ _ _ _ (drop_step c.args.nodes.now c.loop-node.node-index SortType c.loop-node-test.true) c.loop-node.invariant.new

pub returns-clause-made : goal.returns-clause-made
returns-clause-made c = sym (trees_with-nil c.loop-node.table c.args.nodes.now c.loop-node.node-index c.loop-node-test.false) ∙ c.loop-node.invariant.trees
