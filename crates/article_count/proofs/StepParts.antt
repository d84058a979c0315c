-- The parts of a step: its premises, its theorems, and what has no key when it is made.
use Rattle.std.proofs.Common.{◌≡◌, ◌≢◌, ℕ, suc, ◌+◌, ◌<◌, ◌==◌, Bool, true, false, cond, List, [], ◌∷◌, ◌++◌, length, Some, None, refl, sym, ap, subst, ◌∙◌, arith, append_assoc}
use Rattle.std.specs.Prelude.{unwrap_or}
use Rattle.std.specs.List.{position_from}
use Rattle.std.proofs.lemmas.Bool.Decides.{nat_tests}
use Rattle.std.proofs.lemmas.Option.{slice_get_past}
use Rattle.hol_spec.specs.Types.{HolType}
use Rattle.hol_spec.specs.Terms.{Term}
use Rattle.hol_spec.specs.Proofs.{Step}
use Rattle.hol_spec.specs.declared.StepKind.{StepKind}
use Rattle.hol_spec.specs.declared.StepKind.TheVariants.{Axiom, Restate, DefineConst, DefineConstList, FirstLaw, SecondLaw}
use Rattle.hol_type.specs.Tables as type
use Rattle.hol_term.specs.Tables.{Trees, IsDistinct}
use Rattle.article_spec.specs.declared.commands.Word.TheVariants as word
use Rattle.article_write_spec.specs.ArticleLength.{count_by, count_inferred, count_premise, count_theorem, count_made}
use Rattle.article_write_spec.specs.Drafts.{Kept}
use Rattle.article_write_spec.specs.Lengths.{word_length, told_length, key_length, Tally, capped}
use Rattle.article_lines.specs.declared.keys.Thing.{Thing}
use Rattle.article_lines.specs.declared.keys.Thing.TheVariants as thing
use Rattle.article_lines.specs.Greatest.{greatest_length}
use Rattle.article_lines.specs.NewSteps.{IsNew}
use Rattle.article_lines.specs.Things.{thing_eq, thing_key}
use Rattle.article_count.specs.declared.tally.Count.{Count}
use Rattle.article_count.specs.declared.terms.TermCount.{TermCount}
use Rattle.article_count.specs.Counts.{added, noted, IsTally}
use Rattle.article_count.specs.StepCounts.{IsNewMade}
use Rattle.article_count.specs.TermTasks.{CanCountTerms, CountsTerms}
use Rattle.article_count.proofs.EachCounted.{adds-CountsTerms}
use Rattle.article_count.proofs.GivenWalks.{lifted, Grows}
use Rattle.article_count.proofs.SparedKeys.{Spares}
use Rattle.article_count.proofs.Tallies.{added-IsTally, key-IsTally, noted-IsTally}

-- Tables without types or terms have none twice
pub no-types : (types : List HolType) → length types ≡ 0 → type.IsDistinct types
no-types [] e = record { each = λ i j t a b. (let z = sym (slice_get_past {X = HolType} [] i (omega arith)) ∙ a in absurd (cc)) }
no-types (t ∷ types) e = absurd (omega (arith, e))

pub no-terms : (terms : List Term) → length terms ≡ 0 → IsDistinct terms
no-terms [] e = record { each = λ i j t a b. (let z = sym (slice_get_past {X = Term} [] i (omega arith)) ∙ a in absurd (cc)) }
no-terms (t ∷ terms) e = absurd (omega (arith, e))

-- Theorems
-- another theorem gets a key
pub new-apart : (i j start : ℕ) (things : List Thing) → i ≢ j → position_from (thing_eq (thing.Theorem i)) start things ≡ None
    → position_from (thing_eq (thing.Theorem i)) start (things ++ thing.Theorem j ∷ []) ≡ None
new-apart i j start [] apart none = let off : (i == j) ≡ false = grind (arith, nat_tests, apart) in ap (λ b. cond b (Some start) None) off
new-apart i j start (y ∷ things) apart none = go (thing_eq (thing.Theorem i) y) none (new-apart i j (start + 1) things apart)
  where
    go : (b : Bool) → cond b (Some start) (position_from (thing_eq (thing.Theorem i)) (start + 1) things) ≡ None
        → (position_from (thing_eq (thing.Theorem i)) (start + 1) things ≡ None
        → position_from (thing_eq (thing.Theorem i)) (start + 1) (things ++ thing.Theorem j ∷ []) ≡ None)
        → cond b (Some start) (position_from (thing_eq (thing.Theorem i)) (start + 1) (things ++ thing.Theorem j ∷ [])) ≡ None
    go true e f = absurd (cc)
    go false e f = f e

pub theorem-counted : {trees : Trees} {steps : ℕ} {c : Count} {m : Tally} (i : ℕ) → i < c.keys.theorems → IsTally trees steps c m
    → IsTally trees steps (added (word_length word.Pop) (noted (thing.Theorem i) c)) (count_theorem i m)
theorem-counted i low h = added-IsTally (word_length word.Pop) (word_length word.Pop) refl
    (noted-IsTally (thing.Theorem i) (subst (λ n. i < n) h.theorems low) h)

pub theorem-CountsTerms : {trees : Trees} {c : TermCount} (i : ℕ) (d : TermCount) → i < c.count.keys.theorems → d
    ≡ record c { count = added (word_length word.Pop) (noted (thing.Theorem i) c.count) } → CountsTerms trees c d (λ q. count_theorem i)
theorem-CountsTerms {trees = trees} {c = c} i d low is =
    subst (λ x. CountsTerms trees c x (λ q. count_theorem i)) (sym is)
    (lifted (added (word_length word.Pop) (noted (thing.Theorem i) c.count)) (count_theorem i) (λ m. (Kept.theorem i ∷ [], refl))
    (λ steps m h. theorem-counted i low h))

-- what is made is kept behind the rest
pub made-Grows : (kind : StepKind) (i : ℕ) → Grows (count_made kind i)
made-Grows DefineConst i m = (Kept.theorem i ∷ [], refl)
made-Grows DefineConstList i m = (Kept.theorem i ∷ [], refl)
made-Grows FirstLaw i m = (Kept.theorem (suc i) ∷ Kept.theorem i ∷ [], append_assoc m.kept (Kept.theorem (suc i) ∷ []) (Kept.theorem i ∷ []))
made-Grows kind i m = (Kept.theorem i ∷ [], refl)

-- any other step infers or defines
pub by-inferred : (q : ℕ) (kind : StepKind) (b : Bool) (i : ℕ) (x : Step) (m : Tally) → (kind ≡ Axiom → ⊥) → (kind ≡ Restate → ⊥) → (kind ≡ SecondLaw → ⊥)
    → count_by q kind b i x m ≡ count_inferred q i x m
by-inferred q Axiom b i x m one two three = absurd (one refl)
by-inferred q Restate b i x m one two three = absurd (two refl)
by-inferred q SecondLaw b i x m one two three = absurd (three refl)
by-inferred q kind b i x m one two three = refl

-- what tells a premise
pub premise-counted : {trees : Trees} {c : TermCount} (i : ℕ) (d : TermCount) → i < c.count.keys.theorems → d
    ≡ record c { count = added (told_length (unwrap_or (thing_key c.count.keys (thing.Theorem i)) 0)) c.count } → CountsTerms trees c d (λ q. count_premise i)
premise-counted {trees = trees} {c = c} i d low is steps q m h =
    let key = key-IsTally (thing.Theorem i) h.tally (subst (λ n. i < n) h.tally.theorems low) in
    adds-CountsTerms d (told_length (unwrap_or (thing_key c.count.keys (thing.Theorem i)) 0)) (key_length m.kept (Kept.theorem i)) is
    (ap (λ o. capped greatest_length (told_length (unwrap_or o 0))) key) steps q m h

-- What has no key
-- after types and terms were counted
pub still-new : {trees : Trees} {c d : TermCount} (f : ℕ → Tally → Tally) (i : ℕ) → ((q : ℕ) → Spares i (f q)) → CountsTerms trees c d f → CanCountTerms trees c
    → i < c.count.keys.theorems → IsNew c.count.keys i → IsNew d.count.keys i
still-new f i spares counts can low new =
    let steps = can.0 in
    let h = can.3.tally in
    let there : i < steps = subst (λ n. i < n) h.theorems low in
    key-IsTally (thing.Theorem i) (counts steps can.1 can.2 can.3).tally there ∙ spares can.1 can.2 (sym (key-IsTally (thing.Theorem i) h there) ∙ new)

pub still-new-made : {trees : Trees} {c d : TermCount} (f : ℕ → Tally → Tally) (kind : StepKind) (i : ℕ) → ((q j : ℕ) → Spares j (f q))
    → CountsTerms trees c d f → CanCountTerms trees c → i < c.count.keys.theorems
    → IsNewMade c.count.keys kind i → IsNewMade d.count.keys kind i
still-new-made f FirstLaw i spares counts can low new = record {
  first = still-new f i (λ q. spares q i) counts can low new.first;
  second = still-new f (suc i) (λ q. spares q (suc i)) counts can new.next new.second;
  next = (let old = can.3.tally.theorems in let now = (counts can.0 can.1 can.2 can.3).tally.theorems in omega (arith, old, now, new.next));
}
still-new-made f kind i spares counts can low new = still-new f i (λ q. spares q i) counts can low new
