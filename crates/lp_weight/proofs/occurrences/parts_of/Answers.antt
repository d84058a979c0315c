use Rattle.std.proofs.Common.{arith}
use Rattle.lp_term.specs.Tables.{tree_at}
use Rattle.lp_weight.proofs.OccurrenceLaws.{occurrences-closed}
use Rattle.lp_weight.proofs.occurrences.parts_of.Goals as goal

pub returns-then-is_closed_under : goal.returns-then-is_closed_under
returns-then-is_closed_under c =
    omega (
      arith,
      occurrences-closed c.args.place.depth (tree_at c.args.base.now.table c.args.place.id.0)
          (c.if-is_closed_under.ensures.closed (omega (arith, c.requires.counted))),
    )
