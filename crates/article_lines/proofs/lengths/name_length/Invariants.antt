use Rattle.std.proofs.Common.{◌≡◌, ◌≤◌, take, length}
use Rattle.article_write_spec.specs.ItemTexts.{components_text}
use Rattle.article_write_spec.specs.Lengths.{capped}
use Rattle.article_lines.specs.Greatest.{greatest_length}
use Rattle.article_lines.proofs.lengths.name_length.Given as goal

-- the components up to here are counted
abbrev pub invariant-loop-index : goal.invariant-loop-index
invariant-loop-index l = record {
  counted : l.length ≡ capped greatest_length (length (components_text (take l.index l.name)));
  from : 1 ≤ l.index;
}
