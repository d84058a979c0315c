use Rattle.std.proofs.Common.{◌≡◌, ℕ, List, ◌++◌}
use Rattle.name_table.specs.Spellings.{packed, unpacked}
use Rattle.name_table.proofs.Packing.{AreBytes}
use Rattle.name_table.proofs.spelling.unpacked.Given as goal

-- what is left is the number of the bytes that are to come
abbrev pub invariant-loop-left : goal.invariant-loop-left
invariant-loop-left l = (back : List ℕ) × (unpacked l.fn.number ≡ l.bytes.items ++ back) × (l.left ≡ packed back) × AreBytes back

abbrev pub decreases-loop-left : goal.decreases-loop-left
decreases-loop-left l = l.left
