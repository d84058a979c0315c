use Rattle.std.proofs.Common.{◌≡◌, ℕ, ◌≤◌, ◌++◌, drop}
use Rattle.lp_spec.specs.Modules.{signature}
use Rattle.lp_spec.specs.ModuleOrder.{AreDeclared}
use Rattle.holide_sig.specs.Modules.{declarations_of, IsHeld}
use Rattle.share_spec.specs.Folded.{declarations}
use Rattle.share.specs.Listings.{entries_in}
use Rattle.share.specs.Moving.{AreMade}
use Rattle.share.proofs.declaring.declare.Given as goal

abbrev pub invariant-loop-i : goal.invariant-loop-i
invariant-loop-i l = record {
  table : l.target.table ≡ l.fn.target.table;
  held : IsHeld l.target;
  near : l.number ≤ l.i;
  follow : (place : ℕ → ℕ) → AreMade place l.source.table l.fn.target.table l.made
      → AreDeclared (signature ++ declarations_of l.fn.target) (declarations place 0 (entries_in (declarations_of l.source) l.source.table l.entries))
      → AreDeclared (signature ++ declarations_of l.target)
      (declarations place l.number (entries_in (declarations_of l.source) l.source.table (drop l.i l.entries)));
  declared : (place : ℕ → ℕ) → AreMade place l.source.table l.fn.target.table l.made
      → declarations_of l.target ++ declarations place l.number (entries_in (declarations_of l.source) l.source.table (drop l.i l.entries))
      ≡ declarations_of l.fn.target ++ declarations place 0 (entries_in (declarations_of l.source) l.source.table l.entries);
}
