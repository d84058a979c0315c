use Rattle.std.specs.Prelude.{◌≡◌, ◌<◌, length, replicate}
use Rattle.lp_spec.specs.Modules.{products, types}
use Rattle.lp_term.specs.Tables.{tree_at}
use Rattle.translate_term.specs.Walks.{Grows}
use Rattle.translate_term.proofs.closed.over_types.Given as goal

abbrev pub invariant-loop-left : goal.invariant-loop-left
invariant-loop-left l =
    Grows l.fn.target l.target × (l.product.0 < length l.target.table)
    × (products (replicate l.left types) (tree_at l.target.table l.product.0)
    ≡ products (replicate l.type_vars types) (tree_at l.fn.target.table l.fn.inside.0))

abbrev pub decreases-loop-left : goal.decreases-loop-left
decreases-loop-left l = l.left
