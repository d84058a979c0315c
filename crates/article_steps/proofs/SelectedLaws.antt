-- The flagged steps, written in the order of all steps, and the theorems that have no key on the way.
use Rattle.std.proofs.Common.{◌≡◌, ℕ, zero, suc, ◌+◌, ◌<◌, ◌≤◌, ◌==◌, Bool, true, false, cond, List, [], ◌∷◌, length, Some, slice_get, refl, sym, ap, subst, ◌∙◌, arith}
use Rattle.std.specs.Prelude.{slice_index_or}
use Rattle.std.specs.List.{list_any}
use Rattle.std.proofs.lemmas.Option.{slice_get_within}
use Rattle.hol_spec.specs.Proofs.{Step}
use Rattle.hol_spec.specs.declared.StepKind.{StepKind}
use Rattle.hol_spec.specs.declared.StepKind.TheVariants.{FirstLaw, SecondLaw}
use Rattle.hol_rules.specs.Views.{step_in}
use Rattle.article_write_spec.specs.ReachedSteps.{Numbered}
use Rattle.article_write_spec.specs.Drafts.{Draft, write_each}
use Rattle.article_write_spec.specs.WrittenSteps.{write_by, write_step}
use Rattle.article_write_laws.specs.Flags.{selected}
use Rattle.article_lines.specs.Things.{Keyed, none_keyed}
use Rattle.article_lines.specs.Flagged.{flag, AreExports, ArePairs}
use Rattle.article_lines.specs.NewSteps.{IsNew, IsNewStep}
use Rattle.article_steps.specs.Said.{IsAppending}
use Rattle.article_steps.specs.SelectedSteps.{numbered_from, flagged_writer, written_if, told_writer}
use Rattle.article_steps.specs.TheoremKeys.{IsBehind, AreNewFrom}
use Rattle.article_steps.proofs.SaidLaws.{appends-none}

-- Selected steps
pub each-selected : (told : ℕ → Bool) (write : Numbered → Draft → Draft) (i : ℕ) (xs : List Step) (d : Draft)
    → write_each (told_writer told write) (numbered_from i xs) d ≡ write_each write (selected told i xs) d
each-selected told write i [] d = refl
each-selected told write i (x ∷ xs) d = go (told i) (each-selected told write (suc i) xs)
  where
    go : (b : Bool) → ((e : Draft) → write_each (told_writer told write) (numbered_from (suc i) xs) e ≡ write_each write (selected told (suc i) xs) e)
        → write_each (told_writer told write) (numbered_from (suc i) xs) (written_if b (write (record { number = i; step = x })) d)
        ≡ write_each write (cond b (record { number = i; step = x } ∷ selected told (suc i) xs) (selected told (suc i) xs)) d
    go true same = same (write (record { number = i; step = x }) d)
    go false same = same d

pub appends-told : (told : ℕ → Bool) (write : Numbered → Draft → Draft) → ((x : Numbered) → IsAppending (write x)) → (x : Numbered)
    → IsAppending (told_writer told write x)
appends-told told write a x = go (told x.number)
  where
    go : (b : Bool) → IsAppending (written_if b (write x))
    go true = a x
    go false = appends-none

-- the flags of exports are those that the article tells
pub each-exports : (q : ℕ) (flags : List Bool) (exports : List ℕ) (told : ℕ → Bool) → AreExports flags exports → (i : ℕ) (xs : List Step)
    → i + length xs ≤ length flags
    → (d : Draft) → write_each (flagged_writer q (flag flags)) (selected told i xs) d ≡ write_each (write_step q exports) (selected told i xs) d
each-exports q flags exports told are i [] low d = refl
each-exports q flags exports told are i (x ∷ xs) low d = go (told i) (each-exports q flags exports told are (suc i) xs (omega (arith, low)))
  where
    here : (e : Draft) → write_by q x.kind (flag flags i) i x e ≡ write_by q x.kind (list_any (λ k. i == k) exports) i x e
    here e = ap (λ b. write_by q x.kind b i x e) (are i (omega (arith, low)))

    go : (b : Bool) → ((e : Draft) → write_each (flagged_writer q (flag flags)) (selected told (suc i) xs) e ≡ write_each (write_step q exports)
        (selected told (suc i) xs) e)
        → write_each (flagged_writer q (flag flags)) (cond b (record { number = i; step = x } ∷ selected told (suc i) xs) (selected told (suc i) xs)) d
        ≡ write_each (write_step q exports) (cond b (record { number = i; step = x } ∷ selected told (suc i) xs) (selected told (suc i) xs)) d
    go true same = same (write_by q x.kind (flag flags i) i x d) ∙ ap (write_each (write_step q exports) (selected told (suc i) xs)) (here d)
    go false same = same d

-- A step by its number
step-here : (xs : List Step) (i : ℕ) (d : Step) → i < length xs → slice_get xs i ≡ Some (slice_index_or xs i d)
step-here [] i d h = absurd (omega (arith, h))
step-here (x ∷ xs) zero d h = refl
step-here (x ∷ xs) (suc i) d h = step-here xs i d (omega (arith, h))

step-is : (xs : List Step) (i : ℕ) (d x : Step) → slice_get xs i ≡ Some x → slice_index_or xs i d ≡ x
step-is [] i d x e = absurd (cc)
step-is (y ∷ xs) zero d x e = cc
step-is (y ∷ xs) (suc i) d x e = step-is xs i d x e

numbered-at : (k : ℕ) (xs : List Step) (i : ℕ) (x : Step) → slice_get xs i ≡ Some x → slice_get (numbered_from k xs) i
    ≡ Some (record { number = k + i; step = x })
numbered-at k [] i x e = absurd (cc)
numbered-at k (y ∷ xs) zero x e =
    let same : y ≡ x = cc in
    let here : k ≡ k + zero = omega arith in
    ap (λ z. Some (record { number = k; step = z })) same ∙ ap (λ n. Some (record { number = n; step = x })) here
numbered-at k (y ∷ xs) (suc i) x e =
    let next : suc k + i ≡ k + suc i = omega arith in
    numbered-at (suc k) xs i x e ∙ ap (λ n. Some (record { number = n; step = x })) next

pub numbered-step : (xs : List Step) (i : ℕ) → i < length xs → slice_get (numbered_from 0 xs) i ≡ Some (record { number = i; step = step_in xs i })
numbered-step xs i h = let same : 0 + i ≡ i = omega arith in numbered-at 0 xs i (step_in xs i) (step-here xs i _ h) ∙ ap
    (λ n. Some (record { number = n; step = step_in xs i })) same

pub length-numbered : (k : ℕ) (xs : List Step) → length (numbered_from k xs) ≡ length xs
length-numbered k [] = refl
length-numbered k (x ∷ xs) = ap suc (length-numbered (suc k) xs)

-- Theorems without keys
pub none-new : (steps : List Step) (types terms theorems : ℕ) → AreNewFrom steps (none_keyed types terms theorems) 0
none-new steps types terms theorems = record { here = λ low h. refl; behind = λ j more low. refl }

-- a step that is not told
pub new-skipped : (steps : List Step) (keys : Keyed) (i : ℕ) → AreNewFrom steps keys i → AreNewFrom steps keys (i + 1)
new-skipped steps keys i n = record { here = λ low h. n.behind (i + 1) (omega arith) low; behind = λ j more low. n.behind j (omega (arith, more)) low }

far-behind : (kind : StepKind) (i j : ℕ) → i + 1 < j → IsBehind kind i j
far-behind FirstLaw i j more = omega (arith, more)
far-behind kind i j more = omega (arith, more)

module _ (steps : List Step) (pairs : ArePairs steps) where
  -- behind a first law stands the second
  second-behind : (i : ℕ) → i < length steps → (step_in steps i).kind ≡ FirstLaw → (suc i < length steps) × ((step_in steps (suc i)).kind ≡ SecondLaw)
  second-behind i low first =
      let y = pairs i (step_in steps i) (step-here steps i _ low) first in
      (slice_get_within steps (suc i) y.0 y.1, ap (λ (x : Step). x.kind) (step-is steps (suc i) _ y.0 y.1) ∙ y.2)

  pub new-step : (keys : Keyed) (i : ℕ) → keys.theorems ≡ length steps → i < length steps → AreNewFrom steps keys i → IsNewStep keys (step_in steps i).kind i
  new-step keys i count low n = go (step_in steps i).kind refl
    where
      go : (kind : StepKind) → (step_in steps i).kind ≡ kind → IsNewStep keys kind i
      go FirstLaw e =
          let second = second-behind i low e in
          record {
            first = n.here low (λ f. absurd (let g = sym e ∙ f in cc));
            second = n.behind (suc i) (omega arith) second.0;
            next =
                omega (arith, count, second.0);
          }
      go SecondLaw e = tt
      go kind e = n.here low (λ f. absurd (let g = sym e ∙ f in cc))

  -- a step that is told: the theorems behind it that had no key have none
  pub new-told : (old new : Keyed) (i : ℕ) → i < length steps → ((j : ℕ) → j < length steps → IsBehind (step_in steps i).kind i j → IsNew old j → IsNew new j)
      → AreNewFrom steps old i → AreNewFrom steps new (i + 1)
  new-told old new i low still n = go (step_in steps i).kind refl
    where
      rest : (j : ℕ) → i + 1 < j → j < length steps → IsNew new j
      rest j more less = still j less (far-behind (step_in steps i).kind i j more) (n.behind j (omega (arith, more)) less)

      next : (kind : StepKind) → (step_in steps i).kind ≡ kind → IsBehind kind i (i + 1) → (i + 1 < length steps) → IsNew new (i + 1)
      next kind e behind less = still (i + 1) less (subst (λ k. IsBehind k i (i + 1)) (sym e) behind) (n.behind (i + 1) (omega arith) less)

      go : (kind : StepKind) → (step_in steps i).kind ≡ kind → AreNewFrom steps new (i + 1)
      go FirstLaw e =
          let second = second-behind i low e in
          let one : suc i ≡ i + 1 = omega arith in
          record { here = λ less h. absurd (h (ap (λ k. (step_in steps k).kind) (sym one) ∙ second.1)); behind = rest }
      go kind e = record { here = λ less h. next kind e (omega arith) less; behind = rest }
