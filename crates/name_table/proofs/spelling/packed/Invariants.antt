use Rattle.std.proofs.Common.{◌≡◌, ℕ, List, ◌++◌, length}
use Rattle.name_table.specs.Spellings.{packed}
use Rattle.name_table.proofs.spelling.packed.Given as goal

-- the number is that of the bytes behind those that are left
abbrev pub invariant-loop-left : goal.invariant-loop-left
invariant-loop-left l = (back : List ℕ) × (l.fn.name ≡ l.left ++ back) × (l.number ≡ packed back)

abbrev pub decreases-loop-left : goal.decreases-loop-left
decreases-loop-left l = length l.left
