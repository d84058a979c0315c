use Rattle.std.proofs.Common.{◌≡◌, ◌+◌, length}
use Rattle.lp_spec.specs.Tokens as tokens
use Rattle.dk_read.specs.Texts.{run}
use Rattle.dk_read.proofs.heads.word_len.Given as goal

abbrev pub invariant-loop-rest : goal.invariant-loop-rest
invariant-loop-rest l = record {
  run : l.count + run tokens.is_word_byte l.rest ≡ run tokens.is_word_byte l.fn.bytes;
  length : l.count + length l.rest ≡ length l.fn.bytes;
}

abbrev pub decreases-loop-rest : goal.decreases-loop-rest
decreases-loop-rest l = length l.rest
