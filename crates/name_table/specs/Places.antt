-- Names by number, and where their numbers are found.
use Rattle.std.specs.Prelude.{◌≡◌, ◌<◌, ℕ, if◌then◌else◌, List, [], ◌∷◌, ◌++◌, length, Option, Some, slice_get, position, Vec}
use Rattle.std.specs.List.{list_any}
use Rattle.std.specs.Str.{bytes_eq}
use Rattle.std.specs.Ordering.{nat_cmp}
use Rattle.std.specs.Cmp.Lexicographic.{slice_cmp}
use Rattle.std.specs.BTreeMap.{BTreeMap, get_by}
use Rattle.name_table.specs.Spellings.{unpacked, IsShort}

-- the number of a name
abbrev pub number_of : List (List ℕ) → List ℕ → Option ℕ
number_of names x = position (λ n. bytes_eq n x) names

-- the names, once this one has a number
abbrev pub with_name : List (List ℕ) → List ℕ → List (List ℕ)
with_name names x = if list_any (λ n. bytes_eq n x) names then names else names ++ x ∷ []

-- what a tree has at the key that is these bytes
abbrev pub get_long : {Z : Type 0} → BTreeMap (Vec ℕ Z) ℕ → List ℕ → Option ℕ
get_long m x = get_by (λ k. slice_cmp nat_cmp x k.items) m

-- each short name is found by the number of its bytes, each longer one by its bytes, and no name has two numbers
pub record ArePlaced (short : ℕ → Option ℕ) (long : List ℕ → Option ℕ) (names : List (List ℕ)) : Type 0 where
  pub short_at : (k : ℕ) → IsShort k → short k ≡ number_of names (unpacked k)
  pub long_at : (x : List ℕ) → 15 < length x → long x ≡ number_of names x
  pub once : (n : ℕ) (x : List ℕ) → slice_get names n ≡ Some x → number_of names x ≡ Some n
