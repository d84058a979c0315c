use Rattle.std.specs.Prelude.{◌<◌, ◌≤◌, List, map, length}
use Rattle.hol_spec.specs.Types.{HolType}
use Rattle.lp_spec.specs.Modules.{products}
use Rattle.lp_term.specs.Tables.{tree_at}
use Rattle.sequent.specs.Closed.{closed_type_view}
use Rattle.translate_term.specs.Closed.{Numbered, AreVariables, variable_domains}
use Rattle.translate_term.specs.Walks.{Grows}
use Rattle.translate_term.proofs.ClosedParts.{VariablesLeft}
use Rattle.translate_term.proofs.closed.over_variables.Given as goal

abbrev pub invariant-loop-rest : goal.invariant-loop-rest
invariant-loop-rest l =
    Grows l.fn.target l.target × (l.product.0 < length l.target.table)
    × ((given : Numbered) (ts : List HolType) → AreVariables given ts l.fn.target l.type_vars (map closed_type_view l.fn.types) l.fn.inside
    → VariablesLeft given l.type_vars (map closed_type_view l.rest) (tree_at l.target.table l.product.0)
    (products (variable_domains given l.type_vars ts) (tree_at l.fn.target.table l.fn.inside.0)))
    × (length l.rest ≤ length l.fn.types)

abbrev pub decreases-loop-rest : goal.decreases-loop-rest
decreases-loop-rest l = length l.rest
