use Rattle.std.proofs.Common.{◌≡◌, ◌≤◌, List, length, drop}
use Rattle.hol_spec.specs.ClosedForm.{ClosedType}
use Rattle.lp_term.specs.Tables.{trees_at}
use Rattle.hol_term.specs.Tables.{AreKnown, Keeps}
use Rattle.holide_sig.specs.Modules.{declarations_of}
use Rattle.decode_back.specs.TermWalks.{AreVariables}
use Rattle.decode_back.proofs.SequentLemmas.{HypothesesSoFar}
use Rattle.decode_back.proofs.sequents.decode_hypotheses.Given as goal

abbrev pub invariant-loop-number : goal.invariant-loop-number
invariant-loop-number l = record {
  ids : AreKnown l.table l.ids.items;
  many : length l.ids.items ≡ l.number;
  budget : l.budget ≤ l.fn.budget;
  keeps : Keeps l.fn.table l.table;
  so_far : (types : List ClosedType) → AreVariables l.fn.table l.source.variables.now types
      → HypothesesSoFar (declarations_of l.source.base.now) types (trees_at l.source.base.now.table l.trees)
      (trees_at l.source.base.now.table (drop l.number l.trees)) l.source.place.type_variables l.source.place.free_variables l.number l.fn.budget l.budget
      l.table l.ids.items;
}
