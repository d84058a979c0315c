use Rattle.std.proofs.Common.{◌≡◌, min, true, take}
use Rattle.std.specs.List.{list_all}
use Rattle.article_spec.specs.Numbers.{is_digit, decimal}
use Rattle.bridge_words.proofs.number.capped_value.Given as goal

abbrev pub invariant-loop-byte : goal.invariant-loop-byte
invariant-loop-byte l = (l.value ≡ min (decimal (take l.byte-index l.text)) 18446744073709551616) × (list_all is_digit (take l.byte-index l.text) ≡ true)
