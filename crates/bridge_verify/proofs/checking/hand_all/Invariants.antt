use Rattle.std.proofs.Common.{◌≡◌, []}
use Rattle.lp_term.specs.Tables.{Keeps}
use Rattle.holide_sig.specs.Modules.{declarations_of}
use Rattle.dk_read.specs.Readers.{IsFed}
use Rattle.dk_read.specs.Shared.{reading_over, IsGoingOver}
use Rattle.dk_write.specs.Lines.{text_before}
use Rattle.bridge_verify.proofs.checking.hand_all.Given as goal

-- the reader was fed the text up to the declaration, nothing is gathered, and the table has kept what it held
abbrev pub invariant-loop-i : goal.invariant-loop-i
invariant-loop-i l = record {
  going : IsGoingOver l.reader l.translation.module.table;
  fed : IsFed (reading_over l.reader l.translation.module.table) (text_before (declarations_of l.fn.translation.module) l.fn.translation.bounds.items l.i);
  keeps : Keeps l.fn.translation.module.table l.translation.module.table;
  decls : l.translation.module.decls ≡ l.fn.translation.module.decls;
  bounds : l.translation.bounds ≡ l.fn.translation.bounds;
  counts : l.translation.counts ≡ l.fn.translation.counts;
  room : l.path.room ≡ l.fn.path.room;
  empty : l.text.contents ≡ [];
}
