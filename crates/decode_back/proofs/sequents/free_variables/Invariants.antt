use Rattle.std.proofs.Common.{◌≡◌, length, drop}
use Rattle.lp_term.specs.Tables.{trees_at}
use Rattle.hol_term.specs.Tables.{AreKnown, Keeps}
use Rattle.holide_sig.specs.Modules.{declarations_of}
use Rattle.decode_back.proofs.SequentLemmas.{VariablesSoFar}
use Rattle.decode_back.proofs.sequents.free_variables.Given as goal

abbrev pub invariant-loop-number : goal.invariant-loop-number
invariant-loop-number l = record {
  ids : AreKnown l.table l.ids.items;
  many : length l.ids.items ≡ l.number;
  keeps : Keeps l.fn.table l.table;
  so_far : VariablesSoFar (declarations_of l.source) (trees_at l.source.table l.trees) (trees_at l.source.table (drop l.number l.trees)) l.count l.number
      l.table l.ids.items;
}
