use Rattle.std.proofs.Common.{◌≡◌, take, length}
use Rattle.article_write_spec.specs.ItemTexts.{component_text}
use Rattle.article_write_spec.specs.Lengths.{capped}
use Rattle.article_lines.specs.Greatest.{greatest_length}
use Rattle.article_lines.proofs.lengths.component_length.Given as goal

-- the bytes up to here are counted
abbrev pub invariant-loop-byte : goal.invariant-loop-byte
invariant-loop-byte l = record {
  counted : l.length ≡ capped greatest_length (length (component_text (take l.byte-index l.component)));
}
