-- What contracts see of a proof: the trees of its table, and what it made.
use Rattle.std.specs.Prelude.{◌≡◌, ℕ, List, length, refl}
use Rattle.std.specs.Coded.{Coded, code_by, coded×, coded_list}
use Rattle.hol_spec.specs.Proofs.{Made, steps_of}
use Rattle.hol_proof_laws.specs.ProofCodes.{coded_made}
use Rattle.hol_term.specs.Tables.{Trees, coded_trees, Keeps}

-- the types and terms by number, and symbols and steps in order of making
pub record Kept : Type 0 where
  pub trees : Trees
  pub made : List Made

abbrev pub coded_kept : Coded Kept
coded_kept =
    code_by (Trees × List Made) (coded× coded_trees (coded_list coded_made)) (λ k. (k.trees, k.made))
    (λ p. record { trees = p.0; made = p.1 }) (λ _. refl)

-- how many steps there are, which is the number of the next one
abbrev pub step_count : Kept → ℕ
step_count k = length (steps_of k.made)

-- what had a number keeps it, and nothing is made but types and terms
pub record Grows (old new : Kept) : Type 0 where
  pub trees : Keeps old.trees new.trees
  pub made : new.made ≡ old.made
