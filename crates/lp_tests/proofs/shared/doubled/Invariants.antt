use Rattle.std.proofs.Common.{ℕ, ◌<◌, ◌≤◌, length}
use Rattle.lp_spec.specs.Trees.{Sym}
use Rattle.lp_term.specs.Tables.{Holds, Keeps}
use Rattle.lp_tests.specs.Open.{IsOpen}
use Rattle.lp_tests.proofs.shared.doubled.Given as goal

abbrev pub invariant-loop : goal.invariant-loop
invariant-loop l = record {
  keeps : Keeps l.fn.table l.table;
  arr : Holds l.table l.arr.0 (Sym 3);
  known : l.id.0 < length l.table;
  «open» : (binders count : ℕ) → 4 ≤ count → IsOpen binders count l.fn.table l.fn.leaf → IsOpen binders count l.table l.id;
}
