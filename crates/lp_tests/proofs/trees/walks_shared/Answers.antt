use Rattle.std.proofs.Common.{arith, ◌<◌, length}
use Rattle.lp_term.specs.Tables.{tree_at}
use Rattle.lp_term.specs.TableLaws.{tree_at-Holds}
use Rattle.lp_tests.proofs.trees.walks_shared.Goals as goal

pub lifted_by-requires : goal.lifted_by-requires
lifted_by-requires g c =
    let known : c.in_ok-tree.tree.0 < length c.doubled-3.new.table =
    omega (arith, c.in_ok-tree.ensures.known, c.doubled-2.ensures.longer, c.doubled-3.ensures.longer) in
    (tree_at c.doubled-3.new.table c.in_ok-tree.tree.0, tree_at-Holds _ _ known)
