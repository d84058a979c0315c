use Rattle.std.specs.Prelude.{◌≡◌, ◌<◌, length, drop}
use Rattle.lp_spec.specs.Modules.{applied}
use Rattle.lp_term.specs.Tables.{tree_at, trees_at, Keeps}
use Rattle.holide_sig.proofs.calls.apply.Given as goal

abbrev pub invariant-loop-arg : goal.invariant-loop-arg
invariant-loop-arg l =
    Keeps l.fn.table l.table × (l.made.0 < length l.table)
    × (applied (tree_at l.table l.made.0) (trees_at l.fn.table (drop l.arg-index l.fn.args))
    ≡ applied (tree_at l.fn.table l.fn.head.0) (trees_at l.fn.table l.fn.args))
