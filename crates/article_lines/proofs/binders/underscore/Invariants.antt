use Rattle.std.proofs.Common.{take}
use Rattle.article_lines.specs.Numbered.{HasNone}
use Rattle.article_lines.proofs.binders.underscore.Given as goal

-- none up to here
abbrev pub invariant-loop-place : goal.invariant-loop-place
invariant-loop-place l = record {
  none : HasNone (take l.place l.text);
}
