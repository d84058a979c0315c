-- Measures in little room.
use Rattle.std.specs.Prelude.{◌≡◌, ℕ, ◌<◌, ◌≤◌, ◌^◌, List, Some, slice_get}
use Rattle.common.specs.Amounts.{amount_of, IsCode}
use Rattle.lp_term.specs.declared.measures.Entry.{Entry}
use Rattle.lp_term.specs.declared.measures.Measures.{Measures}

-- the measures of an entry
abbrev pub measures_in : List ℕ → Entry → Measures
measures_in large entry = record { size = amount_of large entry.size; depth = entry.depth; loose = entry.loose }

-- the sizes of the entries are small, or among so many large ones, which stand in the order of the entries
pub record AreEntries (count : ℕ) (entries : List Entry) : Type 0 where
  pub coded : (i : ℕ) (e : Entry) → slice_get entries i ≡ Some e → IsCode count e.size
  pub ordered : (i j : ℕ) (e f : Entry) → i < j → slice_get entries i ≡ Some e → slice_get entries j ≡ Some f → 2 ^ 31 ≤ f.size → e.size < f.size

-- the code is that of the large size of an entry from this one on
pub record IsLargeFrom (entries : List Entry) (from code : ℕ) : Type 0 where
  pub place : ℕ
  pub entry : Entry
  pub behind : from ≤ place
  pub at : slice_get entries place ≡ Some entry
  pub is : entry.size ≡ code
  pub large : 2 ^ 31 ≤ code
