use Rattle.std.proofs.Common.{◌≡◌, take}
use Rattle.article_spec.specs.Numbers.{decimal}
use Rattle.article_write_spec.specs.Lengths.{capped}
use Rattle.article_lines.specs.Greatest.{greatest_length}
use Rattle.article_lines.proofs.binders.value_of.Given as goal

-- the value of the digits up to here
abbrev pub invariant-loop-byte : goal.invariant-loop-byte
invariant-loop-byte l = record {
  value : l.value ≡ capped greatest_length (decimal (take l.byte-index l.digits));
}
