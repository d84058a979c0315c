use Rattle.std.proofs.Common.{◌≡◌, map, length}
use Rattle.article_read.specs.Judged.{looked_up}
use Rattle.article_read.proofs.content.look_up.Given as goal

abbrev pub invariant-loop-table : goal.invariant-loop-table
invariant-loop-table l = looked_up l.text (map (λ entry. (entry.0.now, entry.1)) l.table) ≡ looked_up l.fn.text
    (map (λ entry. (entry.0.now, entry.1)) l.fn.table)

abbrev pub decreases-loop-table : goal.decreases-loop-table
decreases-loop-table l = length l.table
