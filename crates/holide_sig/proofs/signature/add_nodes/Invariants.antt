use Rattle.std.proofs.Common.{◌≡◌, drop}
use Rattle.std.specs.Prelude.{IsTrue}
use Rattle.lp_term.specs.Tables.{IsDistinct}
use Rattle.holide_sig.specs.Nodes.{are_new, trees_with}
use Rattle.holide_sig.proofs.signature.add_nodes.Given as goal

-- the trees so far, and those of the nodes that are left
abbrev pub invariant-loop-node : goal.invariant-loop-node
invariant-loop-node l = record {
  distinct : IsDistinct l.table;
  new : IsTrue (are_new l.table (drop l.node-index l.nodes));
  trees : trees_with l.table (drop l.node-index l.nodes) ≡ trees_with l.fn.table l.fn.nodes;
}
