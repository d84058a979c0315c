use Rattle.std.proofs.Common.{arith, ◌<◌, length}
use Rattle.lp_term.specs.Tables.{tree_at}
use Rattle.lp_term.specs.TableLaws.{tree_at-Holds}
use Rattle.lp_tests.proofs.trees.puts_one.Goals as goal

pub put-requires-clause-arg : goal.put-requires-clause-arg
put-requires-clause-arg g c = (tree_at c.node-9.new.table c.in_ok-four.four.0, tree_at-Holds _ _ c.in_ok-four.ensures.known)

pub put-requires-clause-body : goal.put-requires-clause-body
put-requires-clause-body g c =
    let known : c.in_ok-abstraction.abstraction.0 < length c.node-9.new.table =
    omega (arith, c.in_ok-abstraction.ensures.known, c.node-8.ensures.longer, c.node-9.ensures.longer) in
    (tree_at c.node-9.new.table c.in_ok-abstraction.abstraction.0, tree_at-Holds _ _ known)
