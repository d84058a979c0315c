use Rattle.std.proofs.Common.{◌≡◌, ◌<◌, ℕ, List}
use Rattle.std.specs.Prelude.{drop}
use Rattle.std.specs.List.{AllByRecursion}
use Rattle.hol_term.specs.Tables.{Trees}
use Rattle.article_write_spec.specs.ArticleLength.{count_premise}
use Rattle.article_count.proofs.EachCounted.{IsEach}
use Rattle.article_count.proofs.terms.TermCount.count_theorems.Given as goal

-- what is left comes to the same as the whole list, and there is room for as many theorems
abbrev pub invariant-loop-id : goal.invariant-loop-id
invariant-loop-id l = record {
  room : l.self.count.keys.theorems ≡ l.fn.self.count.keys.theorems;
  known : AllByRecursion (λ i. i < l.fn.self.count.keys.theorems) (drop l.id-index l.ids);
  each : (trees : Trees) → IsEach trees (λ (ids : List ℕ). Unit {0}) (λ (ids : List ℕ). ids) (λ q. count_premise) l.fn.self l.ids (drop l.id-index l.ids)
      l.self;
}
