use Rattle.std.specs.Prelude.{◌<◌, ◌≤◌, List, map, length}
use Rattle.hol_spec.specs.Terms.{Term}
use Rattle.lp_spec.specs.Modules.{products}
use Rattle.lp_term.specs.Tables.{tree_at}
use Rattle.sequent.specs.Closed.{closed_term_view}
use Rattle.translate_term.specs.Closed.{Numbered, AreHypotheses, hypothesis_domains}
use Rattle.translate_term.specs.Walks.{Grows}
use Rattle.translate_term.proofs.ClosedParts.{HypothesesLeft}
use Rattle.translate_term.proofs.closed.over_hypotheses.Given as goal

abbrev pub invariant-loop-rest : goal.invariant-loop-rest
invariant-loop-rest l =
    Grows l.fn.target l.target × (l.product.0 < length l.target.table)
    × ((given : Numbered) (hs : List Term) → AreHypotheses given hs l.fn.target l.type_vars l.outside (map closed_term_view l.fn.hyps) l.fn.inside
    → HypothesesLeft given l.outside (map closed_term_view l.rest) (tree_at l.target.table l.product.0)
    (products (hypothesis_domains given l.outside hs) (tree_at l.fn.target.table l.fn.inside.0)))
    × (length l.rest ≤ length l.fn.hyps)

abbrev pub decreases-loop-rest : goal.decreases-loop-rest
decreases-loop-rest l = length l.rest
