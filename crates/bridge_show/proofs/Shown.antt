-- The lines of the theorems that are shown, and the run that was read.
use Rattle.std.proofs.Common.{◌≡◌, ℕ, zero, suc, ◌+◌, ◌<◌, List, [], ◌∷◌, ◌++◌, length, drop, get_or, Option, None, Some, refl, sym, ap, ◌∙◌, append_assoc, arith}
use Rattle.std.specs.Prelude.{codes, decimal}
use Rattle.std.specs.List.{AllByRecursion}
use Rattle.std.proofs.lemmas.List.{drop_more}
use Rattle.hol_spec.specs.ClosedForm.{ClosedSequent, closed_form}
use Rattle.hol_spec.specs.Proofs.{Made, sequent_at}
use Rattle.decode_spec.specs.ClosedText.{closed_text}
use Rattle.bridge_spec.specs.Texts.{theorem_line, theorem_lines}

-- what holds of each holds of one
pub all-at : (P : ℕ → Type 0) (xs : List ℕ) (i d : ℕ) → AllByRecursion P xs → i < length xs → P (get_or xs i d)
all-at P [] i d h w = absurd (omega (arith, w))
all-at P (x ∷ xs) zero d h w = h.0
all-at P (x ∷ xs) (suc i) d h w = all-at P xs i d h.1 (omega (arith, w))

-- the line of the next step is written
pub theorem_lines-next : (what : List ℕ) (made : List Made) (steps : List ℕ) (i d : ℕ) (old new start : List ℕ) → i < length steps → new ≡ old
    ++ theorem_line what i (closed_form (sequent_at made (get_or steps i d)))
    → old ++ theorem_lines what made i (drop i steps) ≡ start → new ++ theorem_lines what made (i + 1) (drop (i + 1) steps) ≡ start
theorem_lines-next what made steps i d old new start h e s =
    let up : i + 1 ≡ suc i = omega arith in
    let line = theorem_line what i (closed_form (sequent_at made (get_or steps i d))) in
    ap (λ t. t ++ theorem_lines what made (i + 1) (drop (i + 1) steps)) e
    ∙ append_assoc old line (theorem_lines what made (i + 1) (drop (i + 1) steps))
    ∙ ap (λ k. old ++ (line ++ theorem_lines what made k (drop (i + 1) steps))) up
    ∙ ap (λ xs. old ++ theorem_lines what made i xs) (sym (drop_more steps i d h))
    ∙ s

-- the pieces of a line, one after another
pub line_pieces : (old what : List ℕ) (number : ℕ) (s : ClosedSequent) → ((((old ++ what) ++ decimal number) ++ codes ": ") ++ closed_text s) ++ codes "\n"
    ≡ old ++ theorem_line what number s
line_pieces old what number s = simp append_assoc
