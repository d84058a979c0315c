-- One step more of an article is counted.
use Rattle.std.proofs.Common.{◌≡◌, ◌≢◌, ℕ, suc, ◌+◌, ◌<◌, ◌≤◌, ◌==◌, Bool, true, false, cond, List, [], ◌∷◌, length, drop, slice_get, Some, None, refl, sym, ap, subst, ◌∙◌, arith}
use Rattle.std.specs.List.{list_any}
use Rattle.std.proofs.lemmas.List.{drop_all, drop_more}
use Rattle.std.proofs.lemmas.Option.{get_or_from_slice_get, slice_get-get_or, slice_get_within}
use Rattle.hol_spec.specs.Proofs.{Step}
use Rattle.hol_spec.specs.declared.StepKind.{StepKind}
use Rattle.hol_spec.specs.declared.StepKind.TheVariants.{FirstLaw, SecondLaw}
use Rattle.hol_term.specs.Tables.{Trees}
use Rattle.hol_rules.specs.Views.{step_in}
use Rattle.article_write_spec.specs.ArticleLength.{count_by, count_step}
use Rattle.article_write_spec.specs.Drafts.{Kept}
use Rattle.article_write_spec.specs.Lengths.{Tally, count_each}
use Rattle.article_write_laws.specs.Flags.{selected}
use Rattle.article_lines.specs.declared.keys.Thing.TheVariants as thing
use Rattle.article_lines.specs.Flagged.{flag, AreExports, ArePairs}
use Rattle.article_lines.specs.NewSteps.{IsNewStep}
use Rattle.article_lines.specs.Things.{thing_key}
use Rattle.article_count.specs.declared.terms.TermCount.{TermCount}
use Rattle.article_count.specs.StepCounts.{count_flagged, AreFresh, IsStepWalk}
use Rattle.article_count.specs.TermTasks.{CountsTerms, IsTermTally}
use Rattle.article_count.proofs.SparedKeys.{by-spares}
use Rattle.article_count.proofs.Tallies.{key-IsTally}

step-there : (steps : List Step) (i : ℕ) → i < length steps → slice_get steps i ≡ Some (step_in steps i)
step-there steps i low = slice_get-get_or steps i _ low

step-is : (steps : List Step) (i : ℕ) (x : Step) → slice_get steps i ≡ Some x → step_in steps i ≡ x
step-is steps i x at = get_or_from_slice_get steps i x _ at

-- behind a first law stands a second law
second-law : (steps : List Step) (i : ℕ) → ArePairs steps → i < length steps → (step_in steps i).kind ≡ FirstLaw → (suc i < length steps)
    × ((step_in steps (suc i)).kind ≡ SecondLaw)
second-law steps i pairs low first =
    let p = pairs i (step_in steps i) (step-there steps i low) first in
    (slice_get_within steps (suc i) p.0 p.1, ap (λ (x : Step). x.kind) (step-is steps (suc i) p.0 p.1) ∙ p.2)

-- Theorems without keys
fresh-skipped : (steps : List Step) (i : ℕ) (kept : List Kept) → AreFresh steps i kept → AreFresh steps (suc i) kept
fresh-skipped steps i kept h = record { later = λ j low. h.later j (omega (arith, low)); next = λ other. h.later (suc i) (omega arith) }

fresh-counted : (q : ℕ) (b : Bool) (steps : List Step) (i : ℕ) (m : Tally) → ArePairs steps → i < length steps → AreFresh steps i m.kept
    → AreFresh steps (suc i) (count_by q (step_in steps i).kind b i (step_in steps i) m).kept
fresh-counted q b steps i m pairs low h =
    let x = step_in steps i in
    record {
      later = λ j above. by-spares j q x.kind b i x (λ e. omega (arith, above, e)) (λ first e. omega (arith, above, e)) m (h.later j (omega (arith, above)));
      next = λ other. by-spares (suc i) q x.kind b i x (λ e. omega (arith, e)) (λ first. absurd (other (second-law steps i pairs low first).1)) m
          (h.later (suc i) (omega arith));
    }

-- the steps that are left, behind the next one
left : (steps : List Step) (told is_export : List Bool) (q i : ℕ) → i < length steps
    → count_each (count_flagged q is_export) (selected (flag told) i (drop i steps))
    ≡ count_each (count_flagged q is_export)
    (cond (flag told i) (record { number = i; step = step_in steps i } ∷ selected (flag told) (suc i) (drop (suc i) steps))
    (selected (flag told) (suc i) (drop (suc i) steps)))
left steps told is_export q i low =
    let next : i + 1 ≡ suc i = omega arith in
    ap (λ xs. count_each (count_flagged q is_export) (selected (flag told) i xs)) (drop_more steps i _ low ∙ ap (λ k. step_in steps i ∷ drop k steps) next)

-- A walk
module _ {trees : Trees} {steps : List Step} {told is_export : List Bool} {q i : ℕ} {c : TermCount} {final : Tally} where
  -- what the step makes has no key yet
  pub walk-new : ArePairs steps → i < length steps → IsStepWalk trees steps told is_export q i c final → IsNewStep c.count.keys (step_in steps i).kind i
  walk-new pairs low w = go (step_in steps i).kind refl
    where
      none : (step_in steps i).kind ≢ SecondLaw → thing_key c.count.keys (thing.Theorem i) ≡ None
      none other = key-IsTally (thing.Theorem i) w.tally.tally low ∙ w.fresh.next other

      go : (kind : StepKind) → (step_in steps i).kind ≡ kind → IsNewStep c.count.keys kind i
      go FirstLaw e =
          let pair = second-law steps i pairs low e in
          record {
            first = none (λ f. let z = sym e ∙ f in absurd (cc));
            second = key-IsTally (thing.Theorem (suc i)) w.tally.tally pair.0 ∙ w.fresh.later (suc i) (omega arith);
            next = (let n = w.tally.tally.theorems in omega (arith, n, pair.0));
          }
      go SecondLaw e = tt
      go kind e = none (λ f. let z = sym e ∙ f in absurd (cc))

  walk-skips : i < length steps → flag told i ≡ false → IsStepWalk trees steps told is_export q i c final
      → IsStepWalk trees steps told is_export q (suc i) c final
  walk-skips low off w = record {
    now = w.now;
    tally = w.tally;
    fresh = fresh-skipped steps i w.now.kept w.fresh;
    ends =
        ap (λ b. count_each (count_flagged q is_export)
        (cond b (record { number = i; step = step_in steps i } ∷ selected (flag told) (suc i) (drop (suc i) steps))
        (selected (flag told) (suc i) (drop (suc i) steps))) w.now) (sym off)
        ∙ ap (λ f. f w.now) (sym (left steps told is_export q i low)) ∙ w.ends;
  }

  walk-counts : (d : TermCount) → ArePairs steps → i < length steps → flag told i ≡ true
      → CountsTerms trees c d (λ k. count_by k (step_in steps i).kind (flag is_export i) i (step_in steps i))
      → IsStepWalk trees steps told is_export q i c final → IsStepWalk trees steps told is_export q (suc i) d final
  walk-counts d pairs low on counts w = record {
    now = count_by q (step_in steps i).kind (flag is_export i) i (step_in steps i) w.now;
    tally = counts (length steps) q w.now w.tally;
    fresh = fresh-counted q (flag is_export i) steps i w.now pairs low w.fresh;
    ends =
        ap (λ b. count_each (count_flagged q is_export)
        (cond b (record { number = i; step = step_in steps i } ∷ selected (flag told) (suc i) (drop (suc i) steps))
        (selected (flag told) (suc i) (drop (suc i) steps))) w.now) (sym on)
        ∙ ap (λ f. f w.now) (sym (left steps told is_export q i low)) ∙ w.ends;
  }

  -- the next step, told or not
  pub next-skipped : (d : TermCount) → i < length steps → flag told i ≡ false → d ≡ c → IsStepWalk trees steps told is_export q i c final
      → IsStepWalk trees steps told is_export q (i + 1) d final
  next-skipped d low off is w =
      let next : suc i ≡ i + 1 = omega arith in
      subst (λ k. IsStepWalk trees steps told is_export q k d final) next
      (subst (λ e. IsStepWalk trees steps told is_export q (suc i) e final) (sym is) (walk-skips low off w))

  pub next-counted : (d e : TermCount) → ArePairs steps → i < length steps → flag told i ≡ true → d ≡ e
      → CountsTerms trees c e (λ k. count_by k (step_in steps i).kind (flag is_export i) i (step_in steps i))
      → IsStepWalk trees steps told is_export q i c final → IsStepWalk trees steps told is_export q (i + 1) d final
  next-counted d e pairs low on is counts w =
      let next : suc i ≡ i + 1 = omega arith in
      subst (λ k. IsStepWalk trees steps told is_export q k d final) next
      (subst (λ x. IsStepWalk trees steps told is_export q (suc i) x final) (sym is) (walk-counts e pairs low on counts w))

  pub walk-ends : length steps ≤ i → IsStepWalk trees steps told is_export q i c final → IsTermTally trees (length steps) q c final
  walk-ends all w = subst (IsTermTally trees (length steps) q c)
      (ap (λ xs. count_each (count_flagged q is_export) (selected (flag told) i xs) w.now) (sym (drop_all i steps all)) ∙ w.ends) w.tally

-- the flags and the list tell the same exports
pub flagged-exports : (q : ℕ) (told is_export : List Bool) (exports : List ℕ) (i : ℕ) (xs : List Step) (m : Tally) → i + length xs ≤ length is_export
    → AreExports is_export exports
    → count_each (count_flagged q is_export) (selected (flag told) i xs) m ≡ count_each (count_step q exports) (selected (flag told) i xs) m
flagged-exports q told is_export exports i [] m low h = refl
flagged-exports q told is_export exports i (x ∷ xs) m low h =
    go (flag told i) (λ l. flagged-exports q told is_export exports (suc i) xs l (omega (arith, low)) h)
  where
    go : (b : Bool) → ((l : Tally) → count_each (count_flagged q is_export) (selected (flag told) (suc i) xs) l ≡ count_each (count_step q exports)
        (selected (flag told) (suc i) xs) l)
        → count_each (count_flagged q is_export) (cond b (record { number = i; step = x } ∷ selected (flag told) (suc i) xs) (selected (flag told) (suc i) xs))
        m
        ≡ count_each (count_step q exports) (cond b (record { number = i; step = x } ∷ selected (flag told) (suc i) xs) (selected (flag told) (suc i) xs)) m
    go false rest = rest m
    go true rest =
        ap (λ b. count_each (count_flagged q is_export) (selected (flag told) (suc i) xs) (count_by q x.kind b i x m)) (h i (omega (arith, low)))
        ∙ rest (count_by q x.kind (list_any (λ e. i == e) exports) i x m)
