-- What is left to do while a term is counted.
use Rattle.std.specs.Prelude.{◌≡◌, ◌≢◌, ℕ, suc, ◌+◌, ◌*◌, ◌==◌, Bool, true, false, List, [], ◌∷◌, None}
use Rattle.hol_spec.specs.Terms.{Term}
use Rattle.hol_spec.specs.TermBinding.{loose}
use Rattle.hol_spec.specs.Limits.{term_size}
use Rattle.article_count.specs.Noted.{IsNoted}
use Rattle.hol_type.specs.declared.table.TypeId.{TypeId}
use Rattle.hol_term.specs.declared.TermId.{TermId}
use Rattle.hol_term.specs.Tables.{Trees, term_at}
use Rattle.article_spec.specs.declared.commands.Word.TheVariants as word
use Rattle.article_write_spec.specs.BinderNames.{binder_name}
use Rattle.article_write_spec.specs.Drafts.{Kept}
use Rattle.article_write_spec.specs.Lengths.{name_length, word_length, Tally, key_in, add, note, capped}
use Rattle.article_write_spec.specs.TermLengths.{count_binder, count_under, place_length, AreKept}
use Rattle.article_count.specs.declared.memo.Memo.{Memo}
use Rattle.article_count.specs.declared.memo.Place.{Place}
use Rattle.article_count.specs.declared.terms.TermTask.{TermTask}
use Rattle.article_count.specs.declared.terms.TermTask.TheVariants as task
use Rattle.article_count.specs.declared.terms.TermCount.{TermCount}
use Rattle.article_lines.specs.Greatest.{greatest_length}
use Rattle.article_count.specs.Counts.{type_told, IsTally}
use Rattle.article_count.specs.LooseNumbers.{AreLoose}
use Rattle.article_count.specs.Used.{IsPlace, all_capped}

-- what a place adds is noted
abbrev pub ArePlaces : Trees → ℕ → List Kept → Memo → Type 0
ArePlaces trees q kept memo = (p : Place) (n : ℕ) → IsNoted memo p n → AreKept kept (term_at trees p.id.0)
    × (n ≡ capped greatest_length (place_length q kept p.depth (term_at trees p.id.0)))

-- What is counted is this tally, with q for the names of binders.
pub record IsTermTally (trees : Trees) (steps q : ℕ) (c : TermCount) (m : Tally) : Type 0 where
  pub tally : IsTally trees steps c.count m
  pub places : ArePlaces trees q m.kept c.places
  pub loose : AreLoose trees.terms c.loose.items
  pub number : c.number ≡ q

abbrev pub CanCountTerms : Trees → TermCount → Type 0
CanCountTerms trees c = (steps : ℕ) × (q : ℕ) × (m : Tally) × IsTermTally trees steps q c m

-- this was counted
abbrev pub CountsTerms : Trees → TermCount → TermCount → (ℕ → Tally → Tally) → Type 0
CountsTerms trees c d f = (steps q : ℕ) (m : Tally) → IsTermTally trees steps q c m → IsTermTally trees steps q d (f q m)

-- the parts of a term are counted: what stands behind them, and its key if nothing is loose
abbrev pub behind : Term → Tally → Tally
behind (Term.free n a) m = m
behind (Term.bound k) m = m
behind (Term.constant n a) m = m
behind (Term.app f x) m = add (word_length word.AppTerm) m
behind (Term.lam a b) m = count_binder a b m

abbrev pub note_if : Bool → Term → Tally → Tally
note_if true t m = note (Kept.term t) m
note_if false t m = m

abbrev pub term_made : Term → Tally → Tally
term_made t m = note_if (loose t == 0) t (behind t m)

-- the lengths made last are those of the parts' places
abbrev pub ArePartsMade : ℕ → ℕ → Term → Tally → List ℕ → Type 0
ArePartsMade q d (Term.free n a) m vs = ⊥
ArePartsMade q d (Term.bound k) m vs = ⊥
ArePartsMade q d (Term.constant n a) m vs = ⊥
ArePartsMade q d (Term.app f x) m (v ∷ w ∷ vs) = (v ≡ place_length q m.kept d x) × (w ≡ place_length q m.kept d f)
ArePartsMade q d (Term.app f x) m (v ∷ []) = ⊥
ArePartsMade q d (Term.app f x) m [] = ⊥
ArePartsMade q d (Term.lam a b) m (v ∷ vs) = v ≡ place_length q m.kept (suc d) b
ArePartsMade q d (Term.lam a b) m [] = ⊥

abbrev pub left_over : Term → List ℕ → List ℕ
left_over (Term.free n a) vs = vs
left_over (Term.bound k) vs = vs
left_over (Term.constant n a) vs = vs
left_over (Term.app f x) (v ∷ w ∷ vs) = vs
left_over (Term.app f x) (v ∷ []) = []
left_over (Term.app f x) [] = []
left_over (Term.lam a b) (v ∷ vs) = vs
left_over (Term.lam a b) [] = []

-- its parts are counted, so it has no key, and all of it has keys when it is made
pub record IsFinishing (t : Term) (m : Tally) : Type 0 where
  pub new : loose t ≡ 0 → key_in m.kept (Kept.term t) ≡ None
  pub kept : AreKept (term_made t m).kept t

module _ (trees : Trees) (q : ℕ) where
  abbrev pub term_task : TermTask → Tally → Tally
  term_task (task.Visit p) m = count_under q p.depth (term_at trees p.id.0) m
  term_task (task.Made p) m = term_made (term_at trees p.id.0) m

  abbrev pub term_tasks : List TermTask → Tally → Tally
  term_tasks [] m = m
  term_tasks (t ∷ ts) m = term_tasks ts (term_task t m)

  -- what a place adds once it is counted
  abbrev pub place_now : Place → Tally → ℕ
  place_now p m = place_length q m.kept p.depth (term_at trees p.id.0)

  -- the tasks can be done, with these lengths made last
  abbrev pub AreTermsReady : List TermTask → Tally → List ℕ → Type 0
  AreTermsReady [] m vs = Unit {0}
  AreTermsReady (task.Visit p ∷ ts) m vs = IsPlace trees p × AreTermsReady ts (term_task (task.Visit p) m) (place_now p (term_task (task.Visit p) m) ∷ vs)
  AreTermsReady (task.Made p ∷ ts) m vs =
      IsPlace trees p × IsFinishing (term_at trees p.id.0) m × ArePartsMade q p.depth (term_at trees p.id.0) m vs
      × AreTermsReady ts (term_task (task.Made p) m) (place_now p (term_task (task.Made p) m) ∷ left_over (term_at trees p.id.0) vs)

-- what is counted, with what is left to do, comes to this tally
pub record IsTermWalk (trees : Trees) (steps q : ℕ) (tasks : List TermTask) (c : TermCount) (lengths : List ℕ) (final : Tally) : Type 0 where
  pub now : Tally
  pub tally : IsTermTally trees steps q c now
  pub numbers : List ℕ
  pub held : lengths ≡ all_capped numbers
  pub ready : AreTermsReady trees q tasks now numbers
  pub ends : term_tasks trees q tasks now ≡ final

abbrev pub CanWalkTerms : Trees → List TermTask → TermCount → List ℕ → Type 0
CanWalkTerms trees tasks c lengths = (steps : ℕ) × (q : ℕ) × (final : Tally) × IsTermWalk trees steps q tasks c lengths final

-- what is left comes to the same
abbrev pub WalksTerms : Trees → List TermTask → TermCount → List ℕ → List TermTask → TermCount → List ℕ → Type 0
WalksTerms trees tasks c lengths rest d more = (steps q : ℕ) (final : Tally) → IsTermWalk trees steps q tasks c lengths final → IsTermWalk trees steps q rest d
    more final

-- What stands behind the parts of a place's term is counted, and what it adds if its numbers are loose is this length.
pub record IsFinish (trees : Trees) (steps q : ℕ) (tasks : List TermTask) (p : Place) (length : ℕ) (c : TermCount) (lengths : List ℕ) (final : Tally) : Type 0
  where
    pub before : Tally
    pub tally : IsTermTally trees steps q c (behind (term_at trees p.id.0) before)
    pub place : IsPlace trees p
    pub ready : IsFinishing (term_at trees p.id.0) before
    pub adds : loose (term_at trees p.id.0) ≢ 0 → length
        ≡ capped greatest_length (place_length q (term_made (term_at trees p.id.0) before).kept p.depth (term_at trees p.id.0))
    pub numbers : List ℕ
    pub held : lengths ≡ all_capped numbers
    pub rest : AreTermsReady trees q tasks (term_made (term_at trees p.id.0) before)
        (place_length q (term_made (term_at trees p.id.0) before).kept p.depth (term_at trees p.id.0) ∷ numbers)
    pub ends : term_tasks trees q tasks (term_made (term_at trees p.id.0) before) ≡ final

abbrev pub CanFinish : Trees → Place → ℕ → TermCount → List ℕ → Type 0
CanFinish trees p length c lengths = (tasks : List TermTask) × (steps : ℕ) × (q : ℕ) × (final : Tally) × IsFinish trees steps q tasks p length c lengths final

abbrev pub Finishes : Trees → Place → ℕ → TermCount → List ℕ → TermCount → List ℕ → Type 0
Finishes trees p length c lengths d more = (tasks : List TermTask) (steps q : ℕ) (final : Tally) → IsFinish trees steps q tasks p length c lengths final
    → IsTermWalk trees steps q tasks d more final

-- how many turns it takes at most
abbrev pub term_turns : Trees → TermTask → ℕ
term_turns trees (task.Visit p) = 2 * term_size (term_at trees p.id.0)
term_turns trees (task.Made p) = 1

abbrev pub terms_work : Trees → List TermTask → ℕ
terms_work trees [] = 0
terms_work trees (t ∷ ts) = term_turns trees t + terms_work trees ts

-- the parts of an application come first
abbrev pub visits : Place → TermId → TermId → List TermTask → List TermTask
visits p f x tasks = task.Visit (record p { id = f }) ∷ task.Visit (record p { id = x }) ∷ tasks

-- how long a binder under so many others is, where its type has a key
abbrev pub binder_told : TermCount → ℕ → TypeId → ℕ
binder_told c depth ty = name_length (binder_name c.number depth) + type_told c.count ty + word_length word.Var
