-- Steps that are written where they are flagged: the flagged ones among all, and exports by their flags.
use Rattle.std.specs.Prelude.{ℕ, suc, Bool, true, false, List, [], ◌∷◌}
use Rattle.hol_spec.specs.Proofs.{Step}
use Rattle.article_write_spec.specs.ReachedSteps.{Numbered}
use Rattle.article_write_spec.specs.Drafts.{Draft, pops}
use Rattle.article_write_spec.specs.WrittenSteps.{keep_theorem, write_by}

-- all steps with their numbers, the first of which is i
abbrev pub numbered_from : ℕ → List Step → List Numbered
numbered_from i [] = []
numbered_from i (x ∷ xs) = record { number = i; step = x } ∷ numbered_from (suc i) xs

-- what is written of a step whose flag tells whether it is an export
abbrev pub flagged_writer : ℕ → (ℕ → Bool) → Numbered → Draft → Draft
flagged_writer q is_export x d = write_by q x.step.kind (is_export x.number) x.number x.step d

abbrev pub written_if : Bool → (Draft → Draft) → Draft → Draft
written_if true write d = write d
written_if false write d = d

-- what is written of a step where it is told, and nothing else
abbrev pub told_writer : (ℕ → Bool) → (Numbered → Draft → Draft) → Numbered → Draft → Draft
told_writer told write x d = written_if (told x.number) (write x) d

-- what is kept of a definition of constants, and of that of a type operator with the number of its first law
abbrev pub defined_keeper : ℕ → Draft → Draft
defined_keeper i d = pops 1 (keep_theorem i d)

abbrev pub laws_keeper : ℕ → Draft → Draft
laws_keeper i d = pops 3 (keep_theorem i (keep_theorem (suc i) d))
