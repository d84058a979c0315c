use Rattle.std.proofs.Common.{◌≡◌, ◌==◌, ℕ, List, true, not, take}
use Rattle.std.specs.List.{list_all, list_any}
use Rattle.article_lines.specs.Flagged.{AreExports}
use Rattle.article_write.proofs.fitting.meets_none.Given as goal

abbrev pub invariant-loop-premise : goal.invariant-loop-premise
invariant-loop-premise l = (exports : List ℕ) → AreExports l.is_export exports → list_all (λ i. not (list_any (λ e. i == e) exports))
    (take l.premise-index l.premises) ≡ true
