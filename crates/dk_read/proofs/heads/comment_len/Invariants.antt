use Rattle.std.proofs.Common.{◌≡◌, ◌+◌, ◌==◌, length}
use Rattle.std.specs.Prelude.{not}
use Rattle.dk_read.specs.Texts.{run}
use Rattle.dk_read.proofs.heads.comment_len.Given as goal

abbrev pub invariant-loop-rest : goal.invariant-loop-rest
invariant-loop-rest l = record {
  run : l.count + run (λ b. not (b == 59)) l.rest ≡ run (λ b. not (b == 59)) l.fn.bytes;
  length : l.count + length l.rest ≡ length l.fn.bytes;
}

abbrev pub decreases-loop-rest : goal.decreases-loop-rest
decreases-loop-rest l = length l.rest
