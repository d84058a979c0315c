-- Steps that are flagged: those that an article tells, and those that it exports.
use Rattle.std.specs.Prelude.{◌≡◌, ℕ, suc, ◌<◌, ◌==◌, List, length, slice_index_or, slice_get, Some, Bool, false}
use Rattle.std.specs.List.{list_any}
use Rattle.hol_spec.specs.Proofs.{Step}
use Rattle.hol_spec.specs.declared.StepKind.TheVariants.{FirstLaw, SecondLaw}

-- the flag with a number; past the last there is none
abbrev pub flag : List Bool → ℕ → Bool
flag flags i = slice_index_or flags i false

-- the flags tell the exports
abbrev pub AreExports : List Bool → List ℕ → Type 0
AreExports flags exports = (i : ℕ) → i < length flags → flag flags i ≡ list_any (λ e. i == e) exports

-- behind the first law of a type definition stands the second
abbrev pub ArePairs : List Step → Type 0
ArePairs steps = (i : ℕ) (x : Step) → slice_get steps i ≡ Some x → x.kind ≡ FirstLaw → (y : Step) × (slice_get steps (suc i) ≡ Some y) × (y.kind ≡ SecondLaw)
