-- The premises of a proof's steps are steps of the proof.
use Rattle.std.proofs.Common.{◌≡◌, ℕ, ◌<◌, ◌≤◌, List, [], ◌∷◌, ◌++◌, length, sym, ap, subst, ◌∙◌, arith}
use Rattle.std.specs.Prelude.{slice_index_or}
use Rattle.std.specs.List.{AllByRecursion}
use Rattle.std.proofs.ByRecursion.{All-get_or}
use Rattle.std.proofs.lemmas.List.{length-append}
use Rattle.hol_laws.specs.Members.{All-append, All-weaker}
use Rattle.hol_spec.specs.Proofs.{Made, Step, steps_of, IsProof}
use Rattle.hol_spec.specs.Proofs as made
use Rattle.hol_proof_laws.specs.ProofGrowth.{steps_of-append}
use Rattle.article_write_laws.specs.Prefixes.{premises-below}

-- the premises are among so many steps
abbrev pub ArePremisesBelow : ℕ → Step → Type 0
ArePremisesBelow n x = AllByRecursion (λ i. i < n) x.premises

premises-within : (n : ℕ) (m : List Made) → IsProof m → length (steps_of m) ≤ n → AllByRecursion (ArePremisesBelow n) (steps_of m)
premises-within n m made.Each.empty low = tt
premises-within n m (made.Each.more {made = before} x p h is) low =
    let parts : steps_of m ≡ steps_of before ++ steps_of (x ∷ []) = ap steps_of is ∙ steps_of-append before (x ∷ []) in
    let fits : length (steps_of before) ≤ n =
    (let l = ap length parts in let a = length-append (steps_of before) (steps_of (x ∷ [])) in omega (arith, low, l, a)) in
    subst (AllByRecursion (ArePremisesBelow n)) (sym parts)
    (All-append (ArePremisesBelow n) (steps_of before) (steps_of (x ∷ [])) (premises-within n before p fits) (last x h fits))
  where
    last : (y : Made) → made.IsMade before y → length (steps_of before) ≤ n → AllByRecursion (ArePremisesBelow n) (steps_of (y ∷ []))
    last (Made.symbol y) h fits = tt
    last (Made.type_definition names c f i) h fits = tt
    last (Made.step y) h fits = (
      All-weaker (λ i. i < length (steps_of before)) (λ i. i < n) (λ i low. omega (arith, low, fits)) y.premises
          (premises-below before y.premises h.premises h.earlier),
      tt {0},
    )

-- those of the step with a number
pub premises-earlier : (m : List Made) (i : ℕ) (d : Step) → IsProof m → i < length (steps_of m)
    → ArePremisesBelow (length (steps_of m)) (slice_index_or (steps_of m) i d)
premises-earlier m i d h low = All-get_or (ArePremisesBelow (length (steps_of m))) (steps_of m) i d low
    (premises-within (length (steps_of m)) m h (omega arith))

-- where there is room for all
pub premises-room : (n k : ℕ) (xs ys : List ℕ) → xs ≡ ys → n ≡ k → AllByRecursion (λ i. i < k) ys → AllByRecursion (λ i. i < n) xs
premises-room n k xs ys e f h = subst (λ l. AllByRecursion (λ i. i < n) l) (sym e) (subst (λ j. AllByRecursion (λ i. i < j) ys) (sym f) h)
