use Rattle.std.proofs.Common.{◌≤◌}
use Rattle.lp_term.specs.Tables as lp
use Rattle.lp_term.specs.Tables.{trees_at}
use Rattle.hol_type.specs.Tables.{pairs_at, ArePairsKnown}
use Rattle.hol_term.specs.Tables.{Keeps}
use Rattle.holide_sig.specs.Modules.{declarations_of}
use Rattle.decode_back.specs.Walks.{at_place}
use Rattle.decode_back.specs.TermWalks.{AreTaken}
use Rattle.decode_back.proofs.heads.type_arguments.Given as goal

abbrev pub invariant-loop-number : goal.invariant-loop-number
invariant-loop-number l = record {
  args : lp.AreKnown l.source.base.now.table l.args;
  pairs : ArePairsKnown l.table.types l.pairs.items;
  keeps : Keeps l.fn.table l.table;
  within : l.number ≤ l.count;
  taken : AreTaken (declarations_of l.source.base.now) (at_place l.source.place) l.number (trees_at l.source.base.now.table l.fn.args)
      (trees_at l.source.base.now.table l.args) (pairs_at l.table.types l.pairs.items);
}
