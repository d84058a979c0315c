-- Pools: sequents by numbers, with the steps that say them.
use Rattle.std.specs.Prelude.{◌≡◌, ℕ, Bool, List, map, Option, Vec}
use Rattle.std.specs.List.{AllByRecursion}
use Rattle.std.specs.Option.{option_map}
use Rattle.hol_spec.specs.Sequents.{same}
use Rattle.hol_term.specs.declared.TermId.{TermId}
use Rattle.hol_term.specs.Tables.{Trees}
use Rattle.sequent.specs.declared.Sequent.{Sequent}
use Rattle.sequent.specs.Sequents.{sequent_at, IsKnown}
use Rattle.compose.specs.declared.pool.Said.{Said}
use Rattle.compose.specs.Listed.{AreListed}

abbrev pub said : Sequent → ℕ → Said
said sequent step = record { sequent = sequent; step = step }

-- the steps, in order
abbrev pub steps_in : List Said → List ℕ
steps_in pool = map (λ (s : Said). s.step) pool

-- the step of what was found
abbrev pub step_of : Option Said → Option ℕ
step_of found = option_map (λ (s : Said). s.step) found

-- whether the sequent is the same as this one, as trees
abbrev pub is_same_at : Trees → Sequent → Said → Bool
is_same_at trees sequent s = same (sequent_at trees s.sequent) (sequent_at trees sequent)

-- the numbers of the sequents are of the table
abbrev pub AreSequentsKnown : Trees → List Said → Type 0
AreSequentsKnown trees pool = AllByRecursion (λ (s : Said). IsKnown trees s.sequent) pool

-- the steps of what is held, in order, and the lists of its places
pub record IsPool {Z : Type 0} (held : List Said) (steps : List ℕ) (lists : List (TermId × Vec ℕ Z)) : Type 0 where
  pub numbered : steps ≡ steps_in held
  pub listed : AreListed held lists
