-- Spreads in little room.
use Rattle.std.specs.Prelude.{◌≡◌, ℕ, ◌-◌, ◌^◌, nat_eq, if◌then◌else◌, List, Some, slice_get}
use Rattle.common.specs.Amounts.{amount_of, IsCode}
use Rattle.lp_weight.specs.declared.column.Entry.{Entry}
use Rattle.lp_weight.specs.declared.column.Front.{Front}
use Rattle.lp_weight.specs.declared.column.Front.TheVariants.{Symbol, Plain}
use Rattle.lp_weight.specs.declared.column.Spread.{Spread}

-- the front of an entry with this amount
abbrev pub front_in : ℕ → ℕ → Front
front_in rest amount = if nat_eq rest (2 ^ 32 - 1) then Plain amount else Symbol (record { rest = record { 0 = rest }; spent = amount })

-- the spread of an entry
abbrev pub spread_in : List ℕ → Entry → Spread
spread_in large entry = record { front = front_in entry.rest (amount_of large entry.front); inner = amount_of large entry.inner }

-- the amounts of the entries are small, or among so many large ones
pub record AreEntries (count : ℕ) (entries : List Entry) : Type 0 where
  pub front : (i : ℕ) (entry : Entry) → slice_get entries i ≡ Some entry → IsCode count entry.front
  pub inner : (i : ℕ) (entry : Entry) → slice_get entries i ≡ Some entry → IsCode count entry.inner
