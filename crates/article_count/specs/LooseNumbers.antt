-- How many binders round each term of a table leave it no loose number. Greater numbers than a u64 can tell are not told; a term with such a number
-- would be deeper than a table is long.
use Rattle.std.specs.Prelude.{◌≡◌, ℕ, ◌+◌, ◌-◌, ◌<◌, ◌≤◌, ◌^◌, List, length, slice_index_or}
use Rattle.hol_spec.specs.Terms.{Term}
use Rattle.hol_spec.specs.TermBinding.{loose}
use Rattle.hol_term.specs.Tables.{term_in}

-- what is told of the term with number i
pub record IsLoose (i : ℕ) (t : Term) (n : ℕ) : Type 0 where
  pub most : n ≤ loose t
  pub least : n + i < 2 ^ 64 - 1 → loose t ≤ n

-- what is told of the first terms
pub record AreLooseTo (terms : List Term) (many : ℕ) (numbers : List ℕ) : Type 0 where
  pub count : length numbers ≡ many
  pub each : (i : ℕ) → i < many → IsLoose i (term_in terms i) (slice_index_or numbers i 0)

abbrev pub AreLoose : List Term → List ℕ → Type 0
AreLoose terms numbers = AreLooseTo terms (length terms) numbers
