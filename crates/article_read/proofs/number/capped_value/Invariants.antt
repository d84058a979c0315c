use Rattle.std.proofs.Common.{◌≡◌, min, true, take}
use Rattle.std.specs.List.{list_all}
use Rattle.article_spec.specs.Numbers.{is_digit, decimal}
use Rattle.article_read.proofs.number.capped_value.Given as goal

abbrev pub invariant-loop-byte : goal.invariant-loop-byte
invariant-loop-byte l = (l.value ≡ min (decimal (take l.byte-index l.text)) 9223372036854775809) × (list_all is_digit (take l.byte-index l.text) ≡ true)
