-- One turn of the sum of uses.
use Rattle.std.proofs.Common.{◌≡◌, ◌⊎◌, ℕ, suc, ◌+◌, ◌<◌, ◌≤◌, List, [], ◌∷◌, ⊎_elim, sym, ap, subst, ◌∙◌, arith}
use Rattle.std.specs.Prelude.{slice_index_or}
use Rattle.hol_spec.specs.Types.{HolType}
use Rattle.hol_spec.specs.Terms.{Term}
use Rattle.hol_spec.specs.Limits.{term_size}
use Rattle.article_count.specs.Noted.{IsNoted}
use Rattle.hol_term.specs.Tables.{Trees, term_at}
use Rattle.article_write_spec.specs.Lengths.{capped}
use Rattle.article_write_spec.specs.TermLengths.{uses}
use Rattle.article_write_laws.specs.CountedTerms.{uses-none}
use Rattle.article_count.specs.declared.memo.Place.{Place}
use Rattle.article_count.specs.declared.uses.UsesTask.{UsesTask}
use Rattle.article_count.specs.declared.uses.UsesTask.TheVariants as task
use Rattle.article_count.specs.declared.uses.UsesWalk.{UsesWalk}
use Rattle.article_lines.specs.Greatest.{greatest_length}
use Rattle.article_count.specs.LooseNumbers.{AreLoose}
use Rattle.article_count.specs.Used.{IsPlace, uses_at, all_capped, SumsEnd, AreUses, IsUsesWalk, uses_work}
use Rattle.article_count.proofs.Tallies.{capped-sum}

-- a number that no loose number passes stands nowhere
pub uses_at-none : (trees : Trees) (loose_numbers : List ℕ) (p : Place) (n : ℕ) → AreLoose trees.terms loose_numbers → IsPlace trees p → n
    ≡ slice_index_or loose_numbers p.id.0 0 → n ≤ p.depth → uses_at trees p ≡ 0
uses_at-none trees loose_numbers p n h place is low =
    let k = h.each p.id.0 place.0 in
    let least = k.least (omega (arith, is, low, place.1)) in
    uses-none p.depth (term_at trees p.id.0) (omega (arith, least, is, low))

-- a sum is made
pub made-IsUsesWalk : {trees : Trees} {root : ℕ} {tasks : List UsesTask} {w : UsesWalk} (v : UsesWalk) (p : Place) (n : ℕ) → n
    ≡ capped greatest_length (uses_at trees p) → v.sums ≡ n ∷ w.sums → v.memo ≡ w.memo
    → IsUsesWalk trees root (task.Visit p ∷ tasks) w → IsUsesWalk trees root tasks v
made-IsUsesWalk {trees = trees} {root = root} {tasks = tasks} {w = w} v p n is sums memo h = record {
  sums = uses_at trees p ∷ h.sums;
  held = sums ∙ ap (λ l. n ∷ l) h.held ∙ ap (λ i. i ∷ all_capped h.sums) is;
  ends = h.ends.1;
  noted = subst (AreUses trees) (sym memo) h.noted;
}

-- the parts of an application come first
pub app-IsUsesWalk : {trees : Trees} {root : ℕ} {tasks : List UsesTask} {w : UsesWalk} (v : UsesWalk) (p f x : Place) → term_at trees p.id.0
    ≡ Term.app (term_at trees f.id.0) (term_at trees x.id.0) → IsPlace trees f → IsPlace trees x
    → f.depth ≡ p.depth → x.depth ≡ p.depth → v.sums ≡ w.sums → v.memo ≡ w.memo → IsUsesWalk trees root (task.Visit p ∷ tasks) w
    → IsUsesWalk trees root (task.Visit f ∷ task.Visit x ∷ task.Sum p ∷ tasks) v
app-IsUsesWalk {trees = trees} {root = root} {tasks = tasks} {w = w} v p f x t one two d e sums memo h =
    let is : uses_at trees f + uses_at trees x ≡ uses_at trees p =
    ap (λ i. uses i (term_at trees f.id.0) + uses_at trees x) d ∙ ap (λ i. uses p.depth (term_at trees f.id.0) + uses i (term_at trees x.id.0)) e
    ∙ ap (uses p.depth) (sym t) in
    record {
      sums = h.sums;
      held = sums ∙ h.held;
      ends = (one, (two, (is, subst (λ n. SumsEnd trees root tasks (n ∷ h.sums)) (sym is) h.ends.1)));
      noted = subst (AreUses trees) (sym memo) h.noted;
    }

-- the uses in an abstraction are those in its body
pub lam-IsUsesWalk : {trees : Trees} {root : ℕ} {tasks : List UsesTask} {w : UsesWalk} (v : UsesWalk) (p b : Place) (a : HolType) → term_at trees p.id.0
    ≡ Term.lam a (term_at trees b.id.0) → IsPlace trees b → b.depth ≡ suc p.depth
    → v.sums ≡ w.sums → v.memo ≡ w.memo → IsUsesWalk trees root (task.Visit p ∷ tasks) w → IsUsesWalk trees root (task.Visit b ∷ tasks) v
lam-IsUsesWalk {trees = trees} {root = root} {tasks = tasks} {w = w} v p b a t one d sums memo h =
    let is : uses_at trees b ≡ uses_at trees p = ap (λ i. uses i (term_at trees b.id.0)) d ∙ ap (uses p.depth) (sym t) in
    record {
      sums = h.sums;
      held = sums ∙ h.held;
      ends = (one, subst (λ n. SumsEnd trees root tasks (n ∷ h.sums)) (sym is) h.ends.1);
      noted = subst (AreUses trees) (sym memo) h.noted;
    }

-- the sums of two parts are taken up
pub two-sums : {trees : Trees} {root : ℕ} {tasks : List UsesTask} {w : UsesWalk} (p : Place) → IsUsesWalk trees root (task.Sum p ∷ tasks) w → (x : ℕ) × (f : ℕ)
    × (rest : List ℕ) × (w.sums ≡ x ∷ f ∷ rest)
two-sums {trees = trees} {root = root} {tasks = tasks} {w = w} p h = go h.sums h.held h.ends
  where
    go : (sums : List ℕ) → w.sums ≡ all_capped sums → SumsEnd trees root (task.Sum p ∷ tasks) sums → (x : ℕ) × (f : ℕ) × (rest : List ℕ)
        × (w.sums ≡ x ∷ f ∷ rest)
    go [] e k = absurd k
    go (x ∷ []) e k = absurd k
    go (x ∷ f ∷ sums) e k = (capped greatest_length x, capped greatest_length f, all_capped sums, e)

pub sum-IsUsesWalk : {trees : Trees} {root : ℕ} {tasks : List UsesTask} {w : UsesWalk} (v : UsesWalk) (p : Place) (x f : ℕ) (rest : List ℕ) → w.sums
    ≡ x ∷ f ∷ rest → v.sums ≡ capped greatest_length (f + x) ∷ rest
    → ((q : Place) (n : ℕ) → IsNoted v.memo q n → IsNoted w.memo q n ⊎ ((q ≡ p) × (n ≡ capped greatest_length (f + x))))
    → IsUsesWalk trees root (task.Sum p ∷ tasks) w → IsUsesWalk trees root tasks v
sum-IsUsesWalk {trees = trees} {root = root} {tasks = tasks} {w = w} v p x f rest was now noted h = go h.sums h.held h.ends
  where
    go : (sums : List ℕ) → w.sums ≡ all_capped sums → SumsEnd trees root (task.Sum p ∷ tasks) sums → IsUsesWalk trees root tasks v
    go [] e k = absurd k
    go (y ∷ []) e k = absurd k
    go (y ∷ g ∷ sums) e k =
        let one : x ≡ capped greatest_length y = (let z = sym was ∙ e in cc) in
        let two : f ≡ capped greatest_length g = (let z = sym was ∙ e in cc) in
        let left : rest ≡ all_capped sums = (let z = sym was ∙ e in cc) in
        let sum : capped greatest_length (f + x) ≡ capped greatest_length (g + y) =
        capped-sum greatest_length f x g y two (ap (capped greatest_length) one
        ∙ (let z : capped greatest_length (capped greatest_length y) ≡ capped greatest_length y = omega arith in z)) in
        record {
          sums = (g + y) ∷ sums;
          held = now ∙ ap (λ n. n ∷ rest) sum ∙ ap (λ l. capped greatest_length (g + y) ∷ l) left;
          ends = k.1;
          noted = λ q n i. ⊎_elim (h.noted q n) (λ s. s.1 ∙ sum ∙ ap (capped greatest_length) (k.0 ∙ ap (uses_at trees) (sym s.0))) (noted q n i);
        }

-- Work
pub visit-uses-less : (trees : Trees) (p : Place) (tasks : List UsesTask) → uses_work trees tasks < uses_work trees (task.Visit p ∷ tasks)
visit-uses-less trees p tasks = let k = positive (term_at trees p.id.0) in omega (arith, k)
  where
    positive : (t : Term) → 1 ≤ term_size t
    positive (Term.free n a) = omega arith
    positive (Term.bound k) = omega arith
    positive (Term.constant n a) = omega arith
    positive (Term.app f x) = omega arith
    positive (Term.lam a b) = omega arith

pub app-uses-less : (trees : Trees) (p f x : Place) (tasks : List UsesTask) → term_at trees p.id.0 ≡ Term.app (term_at trees f.id.0) (term_at trees x.id.0)
    → uses_work trees (task.Visit f ∷ task.Visit x ∷ task.Sum p ∷ tasks) < uses_work trees (task.Visit p ∷ tasks)
app-uses-less trees p f x tasks t = let s : term_size (term_at trees p.id.0) ≡ 1 + term_size (term_at trees f.id.0) + term_size (term_at trees x.id.0) =
    ap term_size t in omega (arith, s)

pub lam-uses-less : (trees : Trees) (p b : Place) (a : HolType) (tasks : List UsesTask) → term_at trees p.id.0 ≡ Term.lam a (term_at trees b.id.0)
    → uses_work trees (task.Visit b ∷ tasks) < uses_work trees (task.Visit p ∷ tasks)
lam-uses-less trees p b a tasks t = let s : term_size (term_at trees p.id.0) ≡ term_size (Term.lam a (term_at trees b.id.0)) =
    ap term_size t in omega (arith, s)
