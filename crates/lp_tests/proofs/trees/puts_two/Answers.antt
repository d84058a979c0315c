use Rattle.std.proofs.Common.{arith, ◌<◌, length, [], ◌∷◌}
use Rattle.lp_term.specs.Tables.{tree_at}
use Rattle.lp_term.specs.TableLaws.{tree_at-Holds}
use Rattle.lp_tests.proofs.trees.puts_two.Goals as goal

pub put_all-requires-clause-args : goal.put_all-requires-clause-args
put_all-requires-clause-args g c =
    let first : c.in_ok-first.first.0 < length c.node-9.new.table =
    omega (
      arith,
      c.in_ok-first.ensures.known,
      c.node-5.ensures.longer,
      c.node-6.ensures.longer,
      c.node-7.ensures.longer,
      c.node-8.ensures.longer,
      c.node-9.ensures.longer,
    ) in
    let last : c.in_ok-last.last.0 < length c.node-9.new.table =
    omega (arith, c.in_ok-last.ensures.known, c.node-6.ensures.longer, c.node-7.ensures.longer, c.node-8.ensures.longer, c.node-9.ensures.longer) in (
      tree_at c.node-9.new.table c.in_ok-first.first.0 ∷ tree_at c.node-9.new.table c.in_ok-last.last.0 ∷ [],
      (tree_at-Holds _ _ first, (tree_at-Holds _ _ last, tt)),
    )

pub put_all-requires-clause-body : goal.put_all-requires-clause-body
put_all-requires-clause-body g c =
    let known : c.in_ok-body.body.0 < length c.node-9.new.table = omega (arith, c.in_ok-body.ensures.known, c.node-8.ensures.longer, c.node-9.ensures.longer) in
    (tree_at c.node-9.new.table c.in_ok-body.body.0, tree_at-Holds _ _ known)
