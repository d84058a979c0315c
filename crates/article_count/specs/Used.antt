-- What is left to do while the uses of a number in a term are summed.
use Rattle.std.specs.Prelude.{◌≡◌, ℕ, ◌+◌, ◌-◌, ◌*◌, ◌<◌, ◌^◌, List, [], ◌∷◌, map, length}
use Rattle.hol_spec.specs.Limits.{term_size}
use Rattle.article_count.specs.Noted.{IsNoted}
use Rattle.hol_term.specs.declared.TermId.{TermId}
use Rattle.hol_term.specs.Tables.{Trees, term_at}
use Rattle.article_write_spec.specs.Lengths.{capped}
use Rattle.article_write_spec.specs.TermLengths.{uses}
use Rattle.article_count.specs.declared.memo.Memo.{Memo}
use Rattle.article_count.specs.declared.memo.Place.{Place}
use Rattle.article_count.specs.declared.uses.UsesTask.{UsesTask}
use Rattle.article_count.specs.declared.uses.UsesTask.TheVariants as task
use Rattle.article_count.specs.declared.uses.UsesWalk.{UsesWalk}
use Rattle.article_lines.specs.Greatest.{greatest_length}

-- the place's term is of the table, and the binders round its parts can be counted
abbrev pub IsPlace : Trees → Place → Type 0
IsPlace trees p = (p.id.0 < length trees.terms) × (p.depth + p.id.0 < 2 ^ 64 - 1)

-- how often the number that passes so many binders stands there
abbrev pub uses_at : Trees → Place → ℕ
uses_at trees p = uses p.depth (term_at trees p.id.0)

-- up to the greatest number
abbrev pub all_capped : List ℕ → List ℕ
all_capped ns = map (capped greatest_length) ns

-- with these sums made last, the tasks come to the root's
abbrev pub SumsEnd : Trees → ℕ → List UsesTask → List ℕ → Type 0
SumsEnd trees root [] sums = sums ≡ root ∷ []
SumsEnd trees root (task.Visit p ∷ rest) sums = IsPlace trees p × SumsEnd trees root rest (uses_at trees p ∷ sums)
SumsEnd trees root (task.Sum p ∷ rest) (x ∷ f ∷ sums) = (f + x ≡ uses_at trees p) × SumsEnd trees root rest ((f + x) ∷ sums)
SumsEnd trees root (task.Sum p ∷ rest) (x ∷ []) = ⊥
SumsEnd trees root (task.Sum p ∷ rest) [] = ⊥

-- what is noted of a place is right
abbrev pub AreUses : Trees → Memo → Type 0
AreUses trees memo = (p : Place) (n : ℕ) → IsNoted memo p n → n ≡ capped greatest_length (uses_at trees p)

-- a walk that comes to this sum
pub record IsUsesWalk (trees : Trees) (root : ℕ) (tasks : List UsesTask) (w : UsesWalk) : Type 0 where
  pub sums : List ℕ
  pub held : w.sums ≡ all_capped sums
  pub ends : SumsEnd trees root tasks sums
  pub noted : AreUses trees w.memo

abbrev pub CanSum : Trees → List UsesTask → UsesWalk → Type 0
CanSum trees tasks w = (root : ℕ) × IsUsesWalk trees root tasks w

abbrev pub Sums : Trees → List UsesTask → UsesWalk → UsesWalk → Type 0
Sums trees tasks v w = (root : ℕ) → IsUsesWalk trees root tasks v → IsUsesWalk trees root w.tasks w

-- how many turns it takes at most
abbrev pub uses_turns : Trees → UsesTask → ℕ
uses_turns trees (task.Visit p) = 2 * term_size (term_at trees p.id.0)
uses_turns trees (task.Sum p) = 1

abbrev pub uses_work : Trees → List UsesTask → ℕ
uses_work trees [] = 0
uses_work trees (t ∷ ts) = uses_turns trees t + uses_work trees ts

-- the parts of an application come first
abbrev pub uses_visits : Place → TermId → TermId → List UsesTask → List UsesTask
uses_visits p f x tasks = task.Visit (record p { id = f }) ∷ task.Visit (record p { id = x }) ∷ tasks
