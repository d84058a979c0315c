use Rattle.std.proofs.Common.{◌≡◌, take, true}
use Rattle.std.specs.List.{list_all}
use Rattle.article_spec.specs.Numbers.{is_digit}
use Rattle.article_lines.proofs.binders.are_digits.Given as goal

-- digits up to here
abbrev pub invariant-loop-byte : goal.invariant-loop-byte
invariant-loop-byte l = record {
  digits : list_all is_digit (take l.byte-index l.text) ≡ true;
}
